-- `push_number` meets its contract: a number below 10 is one digit; another is what the call has printed and one digit more.
use Rattle.std.proofs.Common.{arith, ap, length, length-append, refl}
use Rattle.std.proofs.Math.Nat.{mod-eq_of_lt}
use mathlib.Core.List.{append_assoc}
use Rattle.text_lines.proofs.Decimal.{decimal-last, decimal-more, length-decimal}
use Rattle.text_lines.proofs.text.Text.+push_number.Goals as goal
use Rattle.text_lines.proofs.text.Text.+push_number.Goals.{then-n-ge10, else-n-ge10}

pub push_number-requires : goal.push_number-requires
push_number-requires t c = (omega arith, omega (arith, length-decimal c.args.n c.if-n-ge10.true))

pub push-requires : goal.push-requires
push-requires t c =
    elim c.if-n-ge10.branch [
      | then-n-ge10 w ↦ rw (w.self-is, w.push_number.ensures, length-append) (omega (arith, length-decimal c.args.n w.if-n-ge10.true))
      | else-n-ge10 w ↦ rw w.self-is (omega (arith, ap length (decimal-last c.args.n w.if-n-ge10.false)))
    ]

pub returns : goal.returns
returns t c =
    elim c.if-n-ge10.branch [
      | then-n-ge10 w ↦ rw (c.push.ensures, w.self-is, w.push_number.ensures, decimal-more c.args.n w.if-n-ge10.true, append_assoc) refl
      | else-n-ge10 w ↦ rw (c.push.ensures, w.self-is, decimal-last c.args.n w.if-n-ge10.false, mod-eq_of_lt {n = c.args.n} {m = 10} (omega arith)) refl
    ]
