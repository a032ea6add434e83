-- A client is in conflict by pairs with another where it is among the other's opponents.
use Prim.Native.Nat.{ℕ, zero, suc, ◌+◌, ◌≤◌, ◌<◌}
use mathlib.Core.Path.{◌≡◌, refl, ap, sym, ◌∙◌}
use mathlib.Core.Bool.{Bool, true, false, cond, ◌&&◌, ◌||◌, or-false}
use mathlib.Core.List.{List, [], ◌∷◌, map, map-append}
use mathlib.Core.Logic.{⊎_elim}
use native.Mathlib.Nat.{not-suc-le-zero}
use native.Mathlib.Numerals.{add-one}
use native.Mathlib.Omega.{arith}
use native.Mathlib.Decide.{ℕ_discrete}
use lib.Dec.{eqb}
use lib.ListN.{length, take, set, length-append, length-map}
use lib.Seq.{take-suc-set, length-take-le}
use mir.Val.{bool_byte}
use borrow.Author.Tests.{ne_eqb}
use Rattle.vocabulary.specs.Those.{those, some, member}
use Rattle.vocabulary.proofs.Those.{those-agree, those-suc, those-skip, those-take, some-those-suc, member-append, below_suc}
use Rattle.register.specs.Register.{Register, pairs, first_at, second_at}
use Rattle.policy.specs.Conflict.{pair_names, paired}
use Rattle.row_marks.proofs.Opponents.{named-between}
use Rattle.row_pairs.specs.Opponents.{names, named, other_of, opponents}

eqb-turn : (k l : ℕ) → eqb k l ≡ eqb l k
eqb-turn k l = elim (ℕ_discrete k l) [ yes e ↦ rw e | no d ↦ ne_eqb k l d ∙ sym (ne_eqb l k (λ e. d (sym e))) ]

-- What a search found, each find with what it stands for: the list names x where a find stands for x.
member-map : (g : ℕ → ℕ) (q : ℕ → Bool) (x n : ℕ) → member x (map g (those q n)) ≡ some (those (λ i. q i && eqb x (g i)) n)
unfolding those member
member-map g q x zero = refl
member-map g q x (suc n) =
    rw (map-append g (those q n), member-append, member-map g q x n)
    (ap (λ b. some (those (λ i. q i && eqb x (g i)) n) || b) (at (q n)) ∙ sym (rw add-one at (some-those-suc (λ i. q i && eqb x (g i)) n)))
  where
    at : (b : Bool) → member x (map g (cond b (n ∷ []) [])) ≡ (b && eqb x (g n))
    at true = or-false (eqb x (g n))
    at false = refl

pub opponents-paired : (r : Register) (x c : ℕ) → paired r x c ≡ member x (opponents r.firsts r.seconds c (pairs r))
unfolding paired opponents
opponents-paired r x c =
    ap some (those-agree (pair_names r x c) _ (pairs r) (λ i h. sym (rw (eqb-turn (other_of r.firsts r.seconds c i) x) at (named-between (first_at r i) (second_at r i) c x))))
    ∙ sym (member-map (other_of r.firsts r.seconds c) (names r.firsts r.seconds c) x (pairs r))

-- Where no pair names the client, it has no opponents.
pub opponents-none : (firsts seconds : List ℕ) (c : ℕ) → named firsts seconds c ≡ 0 → opponents firsts seconds c (length firsts) ≡ []
unfolding opponents
opponents-none firsts seconds c = at (those (names firsts seconds c) (length firsts))
  where
    at : (l : List ℕ) → length l ≡ 0 → map (other_of firsts seconds c) l ≡ []
    at [] e = refl
    at (x ∷ xs) e = absurd (omega arith)

-- How many a search has found, one number further.
pub length-those-suc : (p : ℕ → Bool) (i : ℕ) → length (those p (i + 1)) ≡ length (those p i) + bool_byte (p i)
length-those-suc p i = rw (those-suc, length-append) (at (p i))
  where
    at : (b : Bool) → length (those p i) + length (cond b (i ∷ []) []) ≡ length (those p i) + bool_byte b
    at true = refl
    at false = refl

-- A search that passes a find has listed more by then.
those-longer : (p : ℕ → Bool) (i n : ℕ) → i < n → p i ≡ true → length (those p i) < length (those p n)
unfolding those
those-longer p i zero h e = absurd (not-suc-le-zero h)
those-longer p i (suc n) h e =
    rw length-append (⊎_elim (λ b. omega (arith, those-longer p i n b e)) (λ b. rw (← b, e) (omega arith)) (below_suc h))

-- A walk over the pairs that lists the opponents as it goes.
module _ (firsts seconds : List ℕ) (c i : ℕ) where
  -- A pair that does not name the client is passed.
  pub opponents-skip : names firsts seconds c i ≡ false → opponents firsts seconds c (i + 1) ≡ opponents firsts seconds c i
  unfolding opponents
  opponents-skip e = rw (those-skip (names firsts seconds c) i e)

  -- Of one that does, the other client is stored past the list.
  pub opponents-store :
      (list : List ℕ) (n : ℕ) → n < length list → take n list ≡ opponents firsts seconds c i → names firsts seconds c i ≡ true →
      take (n + 1) (set list n (other_of firsts seconds c i)) ≡ opponents firsts seconds c (i + 1)
  unfolding opponents
  opponents-store list n h t e =
      rw (those-take (names firsts seconds c) i e, map-append (other_of firsts seconds c) (those (names firsts seconds c) i))
      (rw (add-one, take-suc-set list n (other_of firsts seconds c i) h, t))

  -- A list that is long enough for all opponents has room for it.
  pub opponents-room :
      (list : List ℕ) (n : ℕ) → n ≤ length list → take n list ≡ opponents firsts seconds c i → i < length firsts → names firsts seconds c i ≡ true →
      named firsts seconds c ≤ length list → n < length list
  unfolding opponents
  opponents-room list n fit t h e all =
      let more : n < named firsts seconds c =
      rw (← (length-take-le n list fit), t) (simp length-map (those-longer (names firsts seconds c) i (length firsts) h e)) in
      omega arith
