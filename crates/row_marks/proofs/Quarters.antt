-- A search of 256 numbers that goes through its four quarters at once.
use Prim.Native.Nat.{ℕ, zero, suc, ◌+◌, ◌-◌, ◌≤◌}
use mathlib.Core.Path.{◌≡◌, refl, ap, ◌∙◌}
use mathlib.Core.Bool.{Bool, true, false, ◌||◌, or-false, or_assoc}
use native.Mathlib.Omega.{arith}
use native.Mathlib.Numerals.{add-one}
use native.Mathlib.Nat.{zero-add, suc-add}
use Rattle.vocabulary.specs.Those.{those, some}
use Rattle.vocabulary.proofs.Those.{some-those-suc, those-never}

-- Whether a search has found something, one number further: the form for an induction.
some-those-next : (p : ℕ → Bool) (n : ℕ) → some (those p (suc n)) ≡ (some (those p n) || p n)
some-those-next p n = rw add-one at (some-those-suc p n)

-- A search of a + b numbers finds something among the first a, or among the next b.
some-those-add : (p : ℕ → Bool) (a b : ℕ) → some (those p (b + a)) ≡ (some (those p a) || some (those (λ j. p (j + a)) b))
unfolding those
some-those-add p a zero = rw (zero-add, or-false)
some-those-add p a (suc b) =
    rw (suc-add b a, some-those-next p (b + a), some-those-add p a b, some-those-next (λ j. p (j + a)) b, or_assoc)

-- Past n, where nothing passes, a search finds nothing more.
pub some-those-upto : (p : ℕ → Bool) (n m : ℕ) → n ≤ m → ((k : ℕ) → n ≤ k → p k ≡ false) → some (those p m) ≡ some (those p n)
some-those-upto p n m h none =
    let split : m ≡ m - n + n = omega arith in
    let nothing = those-never (λ j. p (j + n)) (m - n) (λ j g. none (j + n) (omega arith)) in
    ap (λ (k : ℕ). some (those p k)) split ∙ rw (some-those-add p n (m - n), nothing, or-false)

or_swap : (a b c d : Bool) → ((a || b) || (c || d)) ≡ ((a || c) || (b || d))
or_swap true b c d = refl
or_swap false true true d = refl
or_swap false true false d = refl
or_swap false false c d = refl

-- A search for either of two is two searches.
some-those-or : (p q : ℕ → Bool) (n : ℕ) → some (those (λ j. p j || q j) n) ≡ (some (those p n) || some (those q n))
unfolding those
some-those-or p q zero = refl
some-those-or p q (suc n) =
    rw (some-those-next (λ j. p j || q j) n, some-those-or p q n, some-those-next p n, some-those-next q n)
    (or_swap (some (those p n)) (some (those q n)) (p n) (q n))

-- One of four numbers, a quarter apart, passes the test.
abbrev pub in_quarters : (ℕ → Bool) → ℕ → Bool
in_quarters p j = ((p j || p (j + 64)) || p (j + 128)) || p (j + 192)

pub some-those-quarters : (p : ℕ → Bool) → some (those (in_quarters p) 64) ≡ some (those p 256)
some-those-quarters p =
    rw (some-those-or (λ j. (p j || p (j + 64)) || p (j + 128)) (λ j. p (j + 192)) 64)
    (rw (some-those-or (λ j. p j || p (j + 64)) (λ j. p (j + 128)) 64, some-those-or p (λ j. p (j + 64)) 64)
    (rw (← some-those-add p 64 64, ← some-those-add p 128 64, ← some-those-add p 192 64)))
