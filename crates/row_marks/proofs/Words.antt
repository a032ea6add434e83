-- Laws of words: a word's bits, and those of a word into which one bit was put.
use Prim.Native.Nat.{ℕ, zero, suc, ◌*◌, ◌/◌, ◌%◌, ◌^◌, ◌≤◌, ◌<◌, min, max}
use mathlib.Core.Path.{◌≡◌, refl}
use mathlib.Core.Bool.{false, ◌&&◌, ◌||◌, and-true, and-false}
use native.Mathlib.Omega.{arith}
use native.Mathlib.Nat.{one-mul, zero-mul, zero-min, min-le_left, min-eq_right, zero-max, max-eq_left, max-le, pow-suc, zero-div, div-eq_of_lt, div-one, mul-mod_left, mul-div-mul_right}
use lib.Arith.{digits_mod}
use lib.Bits.{bit_and, bit_or, and_step, or_shr, or_step}
use lib.Dec.{eqb, eqb-zero-suc, eqb-suc-zero, eqb-suc-suc}
use lib.Pow.{pow-lt, shl_exact}
use Rattle.row_marks.specs.Marks.{has_bit}

-- The word 0 has no bit.
pub has_bit-zero : (k : ℕ) → has_bit 0 k ≡ false
unfolding has_bit
has_bit-zero k = rw zero-div

-- The bits of two words put together.
pub has_bit-or : (a b k : ℕ) → has_bit (bit_or a b) k ≡ (has_bit a k || has_bit b k)
unfolding has_bit
has_bit-or a b k =
    let small : max (a / 2 ^ k % 2) (b / 2 ^ k % 2) < 2 = omega (arith, max-le {a = a / 2 ^ k % 2} {b = b / 2 ^ k % 2} {k = 1} (omega arith) (omega arith)) in
    rw (or_shr, or_step, digits_mod (bit_or (a / 2 ^ k / 2) (b / 2 ^ k / 2)) small)
    (at (a / 2 ^ k % 2) (b / 2 ^ k % 2) (omega arith) (omega arith))
  where
    at : (p q : ℕ) → p < 2 → q < 2 → eqb (max p q) 1 ≡ (eqb p 1 || eqb q 1)
    at zero q h g = rw zero-max
    at (suc zero) q h g = rw (max-eq_left {n = 1} {m = q} (omega arith))
    at (suc (suc p)) q h g = absurd (omega arith)

-- Two numbers put together are odd if one is.
pub odd-or : (a b : ℕ) → eqb (bit_or a b % 2) 1 ≡ (eqb (a % 2) 1 || eqb (b % 2) 1)
unfolding has_bit
odd-or a b = rw (div-one (bit_or a b), div-one a, div-one b) at (has_bit-or a b 0)

has_bit-power : (j k : ℕ) → has_bit (2 ^ j) k ≡ eqb j k
unfolding has_bit
has_bit-power zero zero = refl
has_bit-power zero (suc k) = rw (div-eq_of_lt {n = 1} {m = 2 ^ suc k} (pow-lt {i = 0} {j = suc k} (omega arith)), eqb-zero-suc k)
has_bit-power (suc j) zero = rw (div-one, pow-suc, mul-mod_left, eqb-suc-zero)
has_bit-power (suc j) (suc k) = rw (pow-suc 2 j, pow-suc 2 k, mul-div-mul_right {m = 2} (2 ^ j) (2 ^ k) (omega arith), eqb-suc-suc) (has_bit-power j k)

-- A 1 or 0, moved up to a place in the word.
pub has_bit-moved : (flag j k : ℕ) → flag ≤ 1 → j < 64 → has_bit (flag * 2 ^ j % 2 ^ 64) k ≡ (eqb flag 1 && eqb j k)
has_bit-moved zero j k h g = rw zero-mul (has_bit-zero k)
has_bit-moved (suc zero) j k h g = rw (shl_exact {a = 1} 1 j 64 (omega arith) (omega arith), one-mul) (has_bit-power j k)
has_bit-moved (suc (suc flag)) j k h g = absurd (omega arith)

-- What two numbers have in common is odd if both are.
pub odd-and : (a b : ℕ) → eqb (bit_and a b % 2) 1 ≡ (eqb (b % 2) 1 && eqb (a % 2) 1)
odd-and a b =
    let small : min (a % 2) (b % 2) < 2 = omega (arith, min-le_left (a % 2) (b % 2)) in
    rw (and_step, digits_mod (bit_and (a / 2) (b / 2)) small) (at (a % 2) (b % 2) (omega arith) (omega arith))
  where
    at : (p q : ℕ) → p < 2 → q < 2 → eqb (min p q) 1 ≡ (eqb q 1 && eqb p 1)
    at zero q h g = rw (zero-min, and-false)
    at (suc zero) q h g = rw (min-eq_right {n = q} {m = 1} (omega arith), and-true)
    at (suc (suc p)) q h g = absurd (omega arith)
