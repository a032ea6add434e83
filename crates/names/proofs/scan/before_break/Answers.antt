-- `before_break` meets its contract: the bytes that the loop has passed have no byte 10.
use Rattle.std.proofs.Common.{arith, sym, eq-eqb, ne_eqb}
use Rattle.names.proofs.Passing.{before_break-at, before_break-on, before_break-most}
use Rattle.names.proofs.scan.before_break.Goals as goal

pub returns-then-b-eq10 : goal.returns-then-b-eq10
returns-then-b-eq10 c = sym (before_break-at c.args.text.now c.loop-i.i (omega arith) c.loop-i.invariant (eq-eqb _ _ c.if-b-eq10.true))

pub loop-i-preserved : goal.loop-i-preserved
loop-i-preserved c = omega (arith, before_break-on c.args.text.now c.loop-i.i (omega arith) c.loop-i.invariant (ne_eqb _ _ c.if-b-eq10.false))

pub returns : goal.returns
returns c = omega (arith, before_break-most c.args.text.now, c.loop-i.invariant)
