-- Laws of the name that is shown: what two lines say, and where it lies.
use Prim.Native.Nat.{ℕ, ◌+◌, ◌≤◌}
use native.Mathlib.Nat.{add_comm}
use native.Mathlib.Omega.{arith}
use mathlib.Core.Path.{◌≡◌, refl, sym, ap, ◌∙◌}
use mathlib.Core.Bool.{Bool, true, false, cond}
use mathlib.Core.List.{List, [], ◌∷◌}
use lib.ListN.{length}
use Rattle.vocabulary.specs.Those.{some}
use Rattle.vocabulary.proofs.Those.{some-none}
use Rattle.names.specs.Lines.{line_for, line_span}
use Rattle.names.specs.Name.{name_of, name_shown, no_stretch, stretch_of, text_of}
use Rattle.names.specs.Claims.{bytes_at}
use Rattle.names.specs.Part.{Part, name_part}
use Rattle.names.specs.Scan.{cut}
use Rattle.names.specs.declared.Span.{Span}
use Rattle.names.specs.declared.Stretch.{Stretch}
use Rattle.names.proofs.Lines.{line-fits, line_for-at}

some-length : (l : List ℕ) → (length l ≡ 0 → ⊥) → some l ≡ true
some-length [] h = absurd (h refl)
some-length (x ∷ l) h = refl

none-length : (l : List ℕ) → length l ≡ 0 → some l ≡ false
none-length [] h = refl
none-length (x ∷ l) h = absurd (omega (arith, h))

-- Whichever of the two lines are empty.
module _ (client house : List ℕ) (o : ℕ) where
  name_shown-by : (t u : Bool) → some (line_for client o) ≡ t → some (line_for house o) ≡ u
      → cond t (stretch_of 0 (line_span client o)) (cond u (stretch_of 1 (line_span house o)) no_stretch) ≡ name_shown client house o
  unfolding name_shown
  name_shown-by t u e f = rw (← e, ← f)

  -- The lines as they were found.
  module _ {own : Span} (e : own ≡ line_span client o) where
    pub name_shown-client : (own.length ≡ 0 → ⊥) → stretch_of 0 own ≡ name_shown client house o
    name_shown-client h =
        ap (stretch_of 0) e
        ∙ name_shown-by true (some (line_for house o)) (some-length (line_for client o) (λ z. h (ap (λ (l : Span). l.length) e ∙ z))) refl

    module _ {line : Span} (empty : own.length ≡ 0) (f : line ≡ line_span house o) where
      own-none : some (line_for client o) ≡ false
      own-none = none-length (line_for client o) (ap (λ (l : Span). l.length) (sym e) ∙ empty)

      pub name_shown-house : (line.length ≡ 0 → ⊥) → stretch_of 1 line ≡ name_shown client house o
      name_shown-house h =
          ap (stretch_of 1) f ∙ name_shown-by false true own-none (some-length (line_for house o) (λ z. h (ap (λ (l : Span). l.length) f ∙ z)))

      pub name_shown-none : line.length ≡ 0 → no_stretch ≡ name_shown client house o
      name_shown-none h = name_shown-by false false own-none (none-length (line_for house o) (ap (λ (l : Span). l.length) (sym f) ∙ h))

-- ---- where the name lies

module _ (client house : List ℕ) (o : ℕ) where
  -- A stretch and a name: the bytes there are the name, they lie inside the text, and 81 says that there is none.
  Fit : Stretch → List ℕ → Type 0
  Fit s name =
      (bytes_at s client house ≡ name)
      × (s.place + s.length ≤ length (text_of s client house))
      × (s.number ≡ cond (some name) 0 81)

  -- Whichever of the two lines are empty.
  fit-by : (t u : Bool) → some (line_for client o) ≡ t → some (line_for house o) ≡ u
      → Fit (cond t (stretch_of 0 (line_span client o)) (cond u (stretch_of 1 (line_span house o)) no_stretch)) (cond t (line_for client o) (line_for house o))
  unfolding Fit
  fit-by true u e f = (line_for-at client o, line-fits client o, rw e)
  fit-by false true e f = (line_for-at house o, line-fits house o, rw f)
  fit-by false false e f = (sym (some-none _ f), omega arith, rw f)

  name_shown-fit : Fit (name_shown client house o) (name_of client house o)
  unfolding name_shown name_of
  name_shown-fit = fit-by (some (line_for client o)) (some (line_for house o)) refl refl

  pub name_shown-lies : bytes_at (name_shown client house o) client house ≡ name_of client house o
  unfolding Fit
  name_shown-lies = name_shown-fit.0

  pub name_shown-number : (name_shown client house o).number ≡ cond (some (name_of client house o)) 0 81
  unfolding Fit
  name_shown-number = name_shown-fit.2

  pub stretch-fits : {s : Stretch} → s ≡ name_shown client house o → s.place + s.length ≤ length (text_of s client house)
  unfolding Fit
  stretch-fits e = rw e name_shown-fit.1

cond-bytes : (client house : Part) (t : Bool) → (cond t client house).bytes ≡ cond t client.bytes house.bytes
cond-bytes client house true = refl
cond-bytes client house false = refl

-- Cut where the stretch says that is shown, a text has the name's part.
pub cut-name_shown : (client house : Part) (o : ℕ) {s : Stretch} → s ≡ name_shown client.bytes house.bytes o
    → cut (text_of s client house) s.place s.length ≡ name_part client house o
cut-name_shown client house o e = rw e (rw (cond-bytes client house _, name_shown-lies client.bytes house.bytes o))

-- No byte, as the code cuts it.
pub cut-none : (text : Part) → ◌≡◌ {A = Part} (record { block = text.block; start = 0 + text.start; bytes = [] }) (cut text 0 0)
cut-none text = rw (add_comm 0 text.start)
