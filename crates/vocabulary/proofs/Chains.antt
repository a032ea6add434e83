-- Searches through a list, as an iterator makes them, in the words of searches by number.
use Prim.Native.Nat.{ℕ, ◌<◌, ◌≤◌}
use mathlib.Core.Path.{◌≡◌, ap, sym, ◌∙◌}
use mathlib.Core.Logic.{⊎_elim}
use mathlib.Core.Bool.{Bool, true, false, not}
use mathlib.Core.List.{List, []}
use native.Mathlib.Nat.{min-eq_left}
use native.Mathlib.Omega.{arith}
use native.Mathlib.Decide.{dec_lt}
use lib.ListN.{length, get_or}
use Rattle.std.proofs.lemmas.List.{get_or_default}
use Rattle.std.specs.List.{list_any, position_or_len, zip}
use Rattle.std.proofs.lemmas.Slice.Zip.{length-zip, get_or-zip}
use Rattle.std.proofs.lemmas.List.Folds.{list_any_none, list_any_at}
use Rattle.std.proofs.lemmas.List.Sums.{fails_before_first, passes_at_first, prefix_len-le-length}
use Rattle.vocabulary.specs.Those.{those, some, smallest}
use Rattle.vocabulary.proofs.Bools.{true-or-false}
use Rattle.vocabulary.proofs.Those.{smallest-holds, those-empty, those-never, some-none, first_found, first-end}

-- `q` tests by number what `p` tests of the elements.
abbrev pub Tests : {X : Type 0} → (X → Bool) → (ℕ → Bool) → List X → X → Type 0
Tests p q xs d = (k : ℕ) → k < length xs → q k ≡ p (get_or xs k d)

module _ {X : Type 0} (p : X → Bool) (q : ℕ → Bool) (xs : List X) (d : X) (same : Tests p q xs d) where
  none-before : (n : ℕ) → n ≤ length xs → n ≤ position_or_len p xs → those q n ≡ []
  none-before n inside h = those-never q n (λ k b. same k (omega arith) ∙ fails_before_first p xs k d (omega arith))

  -- The first element that passes is where the search by number first finds one.
  pub position-those : get_or (those q (length xs)) 0 (length xs) ≡ position_or_len p xs
  position-those =
      let inside : position_or_len p xs ≤ length xs = prefix_len-le-length (λ x. not (p x)) xs in
      elim (dec_lt (position_or_len p xs) (length xs)) [
        | yes h ↦ first_found q (position_or_len p xs) (length xs) (length xs) (none-before (position_or_len p xs) inside (omega arith)) (same (position_or_len p xs) h ∙ passes_at_first p xs d h) h
        | no h ↦ first-end q (position_or_len p xs) (length xs) (none-before (position_or_len p xs) inside (omega arith)) inside (omega arith)
      ]

  -- Whether an element passes.
  pub any-those : list_any p xs ≡ some (those q (length xs))
  any-those = ⊎_elim found none (true-or-false (some (those q (length xs))))
    where
      found : some (those q (length xs)) ≡ true → list_any p xs ≡ some (those q (length xs))
      found e =
          let s = smallest-holds q (length xs) e in
          list_any_at p xs (smallest (those q (length xs))) d s.0 (sym (same (smallest (those q (length xs))) s.0) ∙ s.1) ∙ sym e

      none : some (those q (length xs)) ≡ false → list_any p xs ≡ some (those q (length xs))
      none e =
          list_any_none p xs (λ k z h. ap p (get_or_default xs k z d h) ∙ sym (same k h) ∙ those-empty q (length xs) (some-none _ e) k h)
          ∙ sym e

-- The same of two lists that are walked side by side.
module _ {X Y : Type 0} (p : X × Y → Bool) (q : ℕ → Bool) (xs : List X) (ys : List Y) (dx : X) (dy : Y) (even : length xs ≡ length ys) (same : (k : ℕ) → k < length xs → q k ≡ p (get_or xs k dx, get_or ys k dy)) where
  zip-length : length (zip xs ys) ≡ length xs
  zip-length = length-zip xs ys ∙ min-eq_left (omega (arith, even))

  zip-tests : Tests p q (zip xs ys) (dx, dy)
  zip-tests k h =
      let inside : k < length xs = omega (arith, zip-length, h) in
      same k inside ∙ ap p (sym (get_or-zip xs ys k (dx, dy) inside (omega (arith, even, inside))))

  pub zip-position-those : get_or (those q (length xs)) 0 (length xs) ≡ position_or_len p (zip xs ys)
  zip-position-those = rw zip-length at (position-those p q (zip xs ys) (dx, dy) zip-tests)

  pub zip-any-those : list_any p (zip xs ys) ≡ some (those q (length xs))
  zip-any-those = rw zip-length at (any-those p q (zip xs ys) (dx, dy) zip-tests)
