-- `line_start` meets its contract. The invariant: from i on, `left` bytes 10 lead to the same place.
use Rattle.std.proofs.Common.{◌∙◌, ap, sym}
use Rattle.line_numbers.specs.LineNumber.{ended}
use Rattle.names.proofs.Passing.{past-zero, past-block, chunk-block}
use Rattle.names.proofs.scan.line_start.Goals as goal

pub returns-then-n-eq0 : goal.returns-then-n-eq0
returns-then-n-eq0 c = rw c.if-n-eq0.true (sym (past-zero _))

pub loop-block-preserved : goal.loop-block-preserved
loop-block-preserved c =
    let cut = chunk-block c.args.text.now c.loop-block.i 64 c.loop-block.invariant.0 c.in-Some.ensures.cases in
    (cut.0, rw c.from-here.ensures (past-block c.args.text.now c.loop-block.i 64 _ cut.0 (c.breaks_in.ensures ∙ ap ended cut.1) (rw c.from-here.ensures at c.if-left-here.false) ∙ c.loop-block.invariant.1))
