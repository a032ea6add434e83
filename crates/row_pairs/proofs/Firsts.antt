-- The first number below a bound that passes a test; and the first that passes one test or another, sought by the second only before the find by the first.
use Prim.Native.Nat.{ℕ, zero, suc, ◌≤◌, ◌<◌}
use mathlib.Core.Path.{◌≡◌, refl, sym}
use mathlib.Core.Bool.{Bool, true, false, cond, ◌||◌, or-true, and-false}
use mathlib.Core.List.{List, [], ◌∷◌, ◌++◌}
use native.Mathlib.Omega.{arith}
use native.Mathlib.Decide.{dec_lt}
use lib.ListN.{length, get_or}
use Rattle.vocabulary.specs.Those.{those, some, smallest, member}
use Rattle.vocabulary.proofs.Those.{those-never, those-empty, smallest-holds, first_found, first-end}
use Rattle.policy.specs.Rules.{cell, can_read}
use Rattle.row_pairs.specs.Among.{first_below, first_among}

-- None before x passes, and x does, unless it is the bound.
abbrev First : (ℕ → Bool) → (n x : ℕ) → Type 0
First p n x = (x ≤ n) × (those p x ≡ []) × (x < n → p x ≡ true)

first-is : (p : ℕ → Bool) (n : ℕ) → First p n (first_below p n)
unfolding those
first-is p zero = (omega arith, refl, λ h. absurd (omega arith))
first-is p (suc n) = at (those p n) (p n) refl refl (first-is p n) (smallest-holds p n)
  where
    at : (l : List ℕ) (b : Bool) → those p n ≡ l → p n ≡ b → First p n (get_or l 0 n) → (some l ≡ true → (smallest l < n) × (p (smallest l) ≡ true)) →
        First p (suc n) (get_or (l ++ cond b (n ∷ []) []) 0 (suc n))
    at [] true e f h s = (omega arith, e, λ j. f)
    at [] false e f h s = (omega arith, rw (e, f), λ j. absurd (omega arith))
    at (x ∷ l) b e f h s = (omega (arith, (s refl).0), h.1, λ j. (s refl).1)

is-first : (p : ℕ → Bool) (n x : ℕ) → First p n x → first_below p n ≡ x
is-first p n x h = elim (dec_lt x n) [ yes l ↦ first_found p x n n h.1 (h.2 l) l | no g ↦ first-end p x n h.1 h.0 (omega arith) ]

pub first-most : (p : ℕ → Bool) (n : ℕ) → first_below p n ≤ n
first-most p n = (first-is p n).0

either : (p q : ℕ → Bool) (n x y : ℕ) → First p n x → First q x y → First (λ k. p k || q k) n y
either p q n x y a b = (omega (arith, a.0, b.0), those-never _ y before, here)
  where
    before : (k : ℕ) → k < y → (p k || q k) ≡ false
    before k h = rw (those-empty p x a.1 k (omega (arith, b.0)), those-empty q y b.1 k h)

    here : y < n → (p y || q y) ≡ true
    here h = elim (dec_lt y x) [ yes l ↦ rw (b.2 l, or-true) | no g ↦ let same : y ≡ x = omega (arith, b.0) in rw (same, a.2 (omega arith)) ]

pub first_either : (p q : ℕ → Bool) (n : ℕ) → first_below q (first_below p n) ≡ first_below (λ k. p k || q k) n
first_either p q n = sym (is-first _ n _ (either p q n _ _ (first-is p n) (first-is q (first_below p n))))

pub among_none : (row clients : List ℕ) → first_among [] row clients ≡ length row
unfolding member
among_none row clients = rw (those-never _ (length row) (λ f h. and-false (can_read (cell row f))))
