-- A list of clients taken four by four.
use Prim.Native.Nat.{ℕ, zero, suc, ◌+◌, ◌<◌}
use mathlib.Core.Path.{◌≡◌, refl, ap, ◌∙◌}
use mathlib.Core.Bool.{Bool, true, false, ◌&&◌, ◌||◌, or-false, or_assoc, and-or_distrib_left}
use mathlib.Core.List.{List, [], ◌∷◌}
use native.Mathlib.Nat.{not-suc-le-zero, le_of_suc-le-suc, add-zero}
use native.Mathlib.Omega.{arith}
use lib.Dec.{eqb}
use lib.ListN.{length, get_or, take, drop, length-drop}
use lib.Seq.{get_or-drop, take-add}
use Rattle.vocabulary.specs.Those.{member}
use Rattle.vocabulary.proofs.Those.{member-append, those-agree}
use Rattle.policy.specs.Rules.{cell, can_read}
use Rattle.row_pairs.specs.Among.{readable_with, first_below, first_among, one_of, four_from}
use Rattle.row_pairs.proofs.Firsts.{first_either}

-- The first four of a list, the first of them again where there are fewer.
four-members : (x : ℕ) (l : List ℕ) → 0 < length l → member x (take 4 l) ≡ one_of (four_from l 0) x
unfolding member
four-members x [] h = absurd (not-suc-le-zero h)
four-members x (a ∷ l) h = at (eqb x a) refl l
  where
    at : (t : Bool) → eqb x a ≡ t → (l : List ℕ) → member x (take 4 (a ∷ l)) ≡ one_of (four_from (a ∷ l) 0) x
    at true e l = rw e
    at false e [] = rw e
    at false e (b ∷ []) = simp (e, or-false)
    at false e (b ∷ c ∷ []) = simp (e, or-false)
    at false e (b ∷ c ∷ d ∷ l) = simp (e, or-false, or_assoc)

-- Within a list, what stands for 'none' does not matter.
pub get_d-within : (n : ℕ) (l : List ℕ) (i d e : ℕ) → i < n → i < length l → get_or (take n l) i d ≡ get_or l i e
get_d-within n [] i d e h j = absurd (not-suc-le-zero j)
get_d-within zero (x ∷ l) i d e h j = absurd (not-suc-le-zero h)
get_d-within (suc n) (x ∷ l) zero d e h j = refl
get_d-within (suc n) (x ∷ l) (suc i) d e h j = get_d-within n l i d e (le_of_suc-le-suc h) (le_of_suc-le-suc j)

-- Four listed clients more: the first find is theirs in what stands before the one so far.
pub among-step : (list row clients : List ℕ) (i : ℕ) → i < length list →
    first_below (readable_with (one_of (four_from list i)) row clients) (first_among (take i list) row clients) ≡ first_among (take (i + 4) list) row clients
among-step list row clients i h =
    first_either _ _ (length row) ∙ ap (λ l. get_or l 0 (length row)) (those-agree _ _ (length row) (λ f j. next (can_read (cell row f)) (get_or clients f 0)))
  where
    next : (b : Bool) (x : ℕ) → ((b && member x (take i list)) || (b && one_of (four_from list i) x)) ≡ (b && member x (take (i + 4) list))
    next b x =
        let some_left : 0 < length (drop i list) = simp length-drop (omega arith) in
        rw (← and-or_distrib_left, take-add, member-append, four-members x (drop i list) some_left) (simp (get_or-drop, add-zero))
