-- `breaks_in` meets its contract. The invariant: n, and the bytes 10 that come next, are all of them.
use Rattle.std.proofs.Common.{arith, ◌∙◌}
use Rattle.names.proofs.Passing.{byte-break, ended-length, ended-step, one-most}
use Rattle.names.proofs.scan.breaks_in.Goals as goal

pub overflow_add-n : goal.overflow_add-n
overflow_add-n c =
    record { fits = omega (arith, one-most _ (c.from-n.ensures ∙ byte-break _), c.loop-b.invariant.0) }

pub loop-b-preserved : goal.loop-b-preserved
loop-b-preserved c =
    let here = c.from-n.ensures ∙ byte-break _ in
    (omega (arith, one-most _ here, c.loop-b.invariant.0), ended-step _ c.loop-b.b-index _ (omega (arith, c.told-block)) here c.loop-b.invariant.1)

pub returns : goal.returns
returns c =
    ended-length _ c.loop-b.b-index _ (omega (arith, c.told-block)) c.loop-b.invariant.1
