-- `value_of` meets its contract: what was made at each turn is the number of the digits before it, and below its power of 10.
use Rattle.std.proofs.Common.{arith, refl, get_or, take, add-one}
use Rattle.std.proofs.Math.Nat.{pow-le-pow_right, pow-succ'}
use Rattle.std.proofs.Math.Seq.{take-suc}
use Rattle.numerals.specs.Numbers.{value_after}
use Rattle.numerals.proofs.Digits.{value_after-append}
use Rattle.numerals.proofs.value_of.Goals as goal

pub loop-digit-init : goal.loop-digit-init
unfolding value_after
loop-digit-init c = (omega arith, refl)

pub overflow_mul-value : goal.overflow_mul-value
overflow_mul-value c = omega (arith, pow-le-pow_right {n = 10} (omega arith) {i = c.loop-digit.digit-index} {j = 4} (omega arith))

pub loop-digit-preserved : goal.loop-digit-preserved
loop-digit-preserved c =
    let i = c.loop-digit.digit-index in
    let digits = c.args.digits.now in
    rw (add-one i, pow-succ' 10 i, take-suc digits i 0 c.loop-digit-test.true, value_after-append 0 (take i digits) (get_or digits i 0))
    (omega arith, omega arith)
