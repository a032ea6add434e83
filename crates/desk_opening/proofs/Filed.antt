-- Laws of filing: the folders from a place on are those of its line and of the place after it.
use Prim.Native.Nat.{ℕ, zero, suc, ◌+◌, ◌≤◌, ◌<◌}
use native.Mathlib.Numerals.{add-one}
use native.Mathlib.Omega.{arith}
use mathlib.Core.Path.{◌≡◌, refl, ap}
use mathlib.Core.List.{List, [], ◌∷◌}
use lib.ListN.{length, take, set, replicate, length-set, length-replicate}
use lib.Seq.{sets}
use Rattle.desk_lines.specs.Lines.{Line, logins_line, folder_line, request_line, ill_line, line_at}
use Rattle.desk_opening.specs.Folders.{Filed, filed, filed_on, filed_by, filed_at}
use Rattle.text_lines.proofs.Printed.{taken}
use Rattle.desk_opening.specs.declared.heading.Filing.{Filing}
use Rattle.desk_opening.specs.Heading.{Kept}
use Rattle.desk_lines.proofs.Onward.{Ahead, line-ahead, line-past}

-- Fuel that reaches the text's end is as good as more.
filed-enough : (f g : ℕ) (text : List ℕ) (place : ℕ) → length text ≤ place + f → length text ≤ place + g → filed_by f text place ≡ filed_by g text place
unfolding filed_by
filed-enough zero zero text place h k = refl
filed-enough zero (suc g) text place h k = rw (line-past text place (omega arith))
filed-enough (suc f) zero text place h k = rw (line-past text place (omega arith))
filed-enough (suc f) (suc g) text place h k = on (line_at text place) (line-ahead text place) (λ next e. filed-enough f g text next (omega arith) (omega arith))
  where
    on : (line : Line) → Ahead text place line → ((next : ℕ) → place < next → filed_by f text next ≡ filed_by g text next)
        → filed_on line place (filed_by f text) ≡ filed_on line place (filed_by g text)
    on (folder_line class client next) ahead more = rw (more next ahead.0)
    on (logins_line n next) ahead more = refl
    on (request_line kind login o next) ahead more = refl
    on ill_line ahead more = refl

pub filed-on : (text : List ℕ) (place : ℕ) → filed_at text place ≡ filed_on (line_at text place) place (filed_at text)
unfolding filed_at filed_by
filed-on text place = filed-enough (length text) (suc (length text)) text place (omega arith) (omega arith)

pub filed-folder : (text : List ℕ) (place class client next : ℕ) → line_at text place ≡ folder_line class client next
    → filed_at text place ≡ filed (class ∷ (filed_at text next).classes) (client ∷ (filed_at text next).clients) (filed_at text next).place
filed-folder text place class client next e = rw (filed-on, e)

-- Each folder has a class and a client.
pub filed-even : (text : List ℕ) (place : ℕ) → length (filed_at text place).clients ≡ length (filed_at text place).classes
unfolding filed_at filed_by
filed-even text place = by (length text) place
  where
    on : (line : Line) (place : ℕ) (more : ℕ → Filed) → ((next : ℕ) → length (more next).clients ≡ length (more next).classes)
        → length (filed_on line place more).clients ≡ length (filed_on line place more).classes
    on (folder_line class client next) place more even = ap suc (even next)
    on (logins_line n next) place more even = refl
    on (request_line kind login o next) place more even = refl
    on ill_line place more even = refl

    by : (fuel place : ℕ) → length (filed_by fuel text place).clients ≡ length (filed_by fuel text place).classes
    by zero place = refl
    by (suc fuel) place = on (line_at text place) place (filed_by fuel text) (by fuel)

-- ---- the folders stored in two lists

module _ (text : List ℕ) (place : ℕ) (cs₀ ds₀ : List ℕ) where
  -- Some folders are stored and the line at a place is next: with the folders from there on, all are.
  pub record Partway (cs ds : List ℕ) (folders at : ℕ) : Type 0 where
    pub few : folders ≤ at
    pub room : length cs ≡ length cs₀
    pub room₂ : length ds ≡ length ds₀
    pub classes : sets cs folders (filed_at text at).classes ≡ sets cs₀ 0 (filed_at text place).classes
    pub clients : sets ds folders (filed_at text at).clients ≡ sets ds₀ 0 (filed_at text place).clients
    pub count : folders + length (filed_at text at).classes ≡ length (filed_at text place).classes
    pub end : (filed_at text at).place ≡ (filed_at text place).place

  pub partway-none : Partway cs₀ ds₀ 0 place
  partway-none =
      record {
        few = omega arith;
        room = refl;
        room₂ = refl;
        classes = refl;
        clients = refl;
        count = omega arith;
        end = refl;
      }

  pub partway-more : (cs ds : List ℕ) (folders at class client next : ℕ) → Partway cs ds folders at → line_at text at ≡ folder_line class client next
      → Partway (set cs folders class) (set ds folders client) (folders + 1) next
  partway-more cs ds folders at class client next s e =
      let more = filed-folder text at class client next e in
      let ahead = rw e at (line-ahead text at) in
      let count = rw more at s.count in
      record {
        few = omega (arith, s.few);
        room = rw length-set s.room;
        room₂ = rw length-set s.room₂;
        classes = rw add-one (rw more at s.classes);
        clients = rw add-one (rw more at s.clients);
        count = omega arith;
        end = rw more at s.end;
      }

  pub partway-all : (cs ds : List ℕ) (folders at : ℕ) → Partway cs ds folders at → filed_at text at ≡ filed [] [] at
      → (folders ≡ length (filed_at text place).classes) × (cs ≡ sets cs₀ 0 (filed_at text place).classes)
      × (ds ≡ sets ds₀ 0 (filed_at text place).clients) × (at ≡ (filed_at text place).place)
  partway-all cs ds folders at s e = (omega (arith, rw e at s.count), rw e at s.classes, rw e at s.clients, rw e at s.end)

-- ---- the folders that are filed

module _ (f : Filed) (filing : Filing) (k : Kept f filing) where
  pub kept-folders : filing.folders ≡ length f.classes
  kept-folders = ap (λ (x : Filing). x.folders) k.kept

  pub kept-place : filing.place ≡ f.place
  kept-place = ap (λ (x : Filing). x.place) k.kept

  -- The labels of no more than 512 folders are found again in their lists.
  module _ (few : filing.folders ≤ 512) where
    pub kept-classes : take filing.folders filing.classes ≡ f.classes
    kept-classes = rw (kept-folders, ap (λ (x : Filing). x.classes) k.kept) (taken (replicate 512 0) f.classes (rw (length-replicate {A = ℕ} 512 0) (omega (arith, kept-folders))))

    pub kept-clients : take filing.folders filing.clients ≡ f.clients
    kept-clients =
        rw (kept-folders, ← k.even, ap (λ (x : Filing). x.clients) k.kept)
        (taken (replicate 512 0) f.clients (rw (length-replicate {A = ℕ} 512 0) (omega (arith, kept-folders, k.even))))
