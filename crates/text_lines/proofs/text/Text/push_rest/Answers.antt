-- `push_rest` meets its contract: what was printed at each turn are the numbers before its place, each in at most six bytes.
use Rattle.std.proofs.Common.{arith, ◌≡◌, get_or, length-append, sym}
use mathlib.Core.List.{append-nil}
use Rattle.text_lines.specs.Text.{spaced}
use Rattle.text_lines.proofs.Decimal.{decimal-16}
use Rattle.text_lines.proofs.Spaced.{append-three, spaced-take}
use Rattle.text_lines.proofs.text.Text.push_rest.Goals as goal

pub loop-n-init : goal.loop-n-init
unfolding spaced
loop-n-init c = (omega arith, sym (append-nil c.args.self.now))

pub push-requires : goal.push-requires
push-requires c = omega arith

pub push_number-requires : goal.push_number-requires
push_number-requires c =
    rw (c.push.ensures, length-append) (omega (arith, c.from.ensures, decimal-16 c.from.result (omega arith)))

pub loop-n-preserved : goal.loop-n-preserved
loop-n-preserved c =
    let i = c.loop-n.n-index in
    let n : c.from.result ≡ get_or c.args.numbers.now i 0 = c.from.ensures in (
      rw (c.push_number.ensures, c.push.ensures, length-append, length-append) (omega (arith, decimal-16 c.from.result (omega arith))),
      rw (c.push_number.ensures, c.push.ensures, c.loop-n.invariant.1, n, spaced-take c.args.numbers.now i c.loop-n-test.true) (append-three c.args.self.now _ _ _),
    )
