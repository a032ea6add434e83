-- A search that goes three numbers at a time.
use Prim.Native.Nat.{ℕ, ◌+◌}
use mathlib.Core.Path.{◌≡◌}
use mathlib.Core.Bool.{Bool, false, ◌||◌}
use mathlib.Core.List.{[]}
use native.Mathlib.Omega.{arith}
use Rattle.vocabulary.specs.Those.{those}
use Rattle.vocabulary.proofs.Those.{those-none}
use Rattle.vocabulary.proofs.Bools.{neither}
use Rattle.row_marks.specs.Walk.{any_of_three}

-- One number more.
next : (p : ℕ → Bool) (i j : ℕ) → j ≡ i + 1 → those p i ≡ [] → p i ≡ false → those p j ≡ []
next p i j e none f = rw e (those-none p i none f)

-- Nothing below i, and none of the next three, is nothing below i + 3.
pub those-none-three : (p : ℕ → Bool) (i j : ℕ) → j ≡ i + 3 → those p i ≡ [] → any_of_three p i ≡ false → those p j ≡ []
those-none-three p i j end e f =
    let two = neither (p i || p (i + 1)) (p (i + 2)) f in
    let one = neither (p i) (p (i + 1)) two.0 in
    let past_one = next p i (i + 1) (omega arith) e one.0 in
    let past_two = next p (i + 1) (i + 2) (omega arith) past_one one.1 in
    next p (i + 2) j (omega arith) past_two two.1
