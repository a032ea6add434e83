-- `end_blocks` meets its contract. The invariant: from i on, the first byte 10 is the same.
use Rattle.std.proofs.Common.{arith, ◌+◌, ◌∙◌, ap}
use Rattle.std.proofs.lemmas.List.{take_rest}
use Rattle.names.specs.Scan.{least}
use Rattle.names.proofs.Passing.{end-most, chunk-block, end-block-found, end-block-passed}
use Rattle.names.proofs.scan.end_blocks.Goals as goal

pub returns-then-first-lt64 : goal.returns-then-first-lt64
returns-then-first-lt64 c =
    let cut = chunk-block c.args.text.now c.loop-block.i 64 c.loop-block.invariant.0 c.in-Some.ensures.cases in
    rw c.from.ensures
    (end-block-found c.args.text.now c.loop-block.i 64 cut.0 (omega arith) (c.first_in-first.ensures ∙ ap (λ l. least l 64) cut.1) c.if-first-lt64.true ∙ c.loop-block.invariant.1)

pub loop-block-preserved : goal.loop-block-preserved
loop-block-preserved c =
    let cut = chunk-block c.args.text.now c.loop-block.i 64 c.loop-block.invariant.0 c.in-Some.ensures.cases in
    (cut.0, end-block-passed c.args.text.now c.loop-block.i 64 cut.0 (omega arith) (c.first_in-first.ensures ∙ ap (λ l. least l 64) cut.1) c.if-first-lt64.false ∙ c.loop-block.invariant.1)

pub overflow_add-result-2 : goal.overflow_add-result-2
overflow_add-result-2 c =
    let text = c.args.text.now in
    let i = c.loop-block.i in
    record { fits = omega (arith, rw (take_rest text i) at c.before_break.ensures, end-most text i c.loop-block.invariant.0) }

pub returns : goal.returns
returns c =
    let text = c.args.text.now in
    let i = c.loop-block.i in
    ap (λ n. i + n) (rw (take_rest text i) at c.before_break.ensures) ∙ c.loop-block.invariant.1
