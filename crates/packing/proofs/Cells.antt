-- Four cells brought together in a byte.
use Prim.Native.Nat.{ℕ, ◌+◌, ◌*◌, ◌/◌, ◌%◌, ◌≤◌}
use mathlib.Core.Path.{◌≡◌}
use native.Mathlib.Omega.{arith}
use Rattle.packing.specs.Packed.{byte_of}

-- Four cells in a word, brought together by one multiplication: their bits stand from bit 24 on, below what is left of the product above
-- bit 32.
pub gathered : (a b c d : ℕ) → (a ≤ 3) × (b ≤ 3) × (c ≤ 3) × (d ≤ 3)
    → 17043520 * (a + 256 * b + 65536 * c + 16777216 * d) / 16777216 % 256 ≡ byte_of a b c d
gathered a b c d h =
    let q : 17043520 * (a + 256 * b + 65536 * c + 16777216 * d) / 16777216 ≡ byte_of a b c d + 256 * (b + 260 * c + 66576 * d) = omega arith in
    rw q (omega arith)
