-- `any_above` meets its contract: what is joined is above 3 just where a cell that the walk has passed is.
use Rattle.std.proofs.Common.{arith, refl, sym, ap, ◌∙◌, get_or}
use Rattle.vocabulary.specs.Those.{those, some}
use Rattle.vocabulary.specs.Place.{row_at}
use Rattle.vocabulary.proofs.Those.{some-those-suc}
use Rattle.vocabulary.proofs.Place.{placed-start, placed-next, cell-placed}
use Rattle.cells.specs.Above.{above, aboves}
use Rattle.cells.proofs.Above.{above-joined}
use Rattle.cells.proofs.whole.WholeRow.any_above.Goals as goal

pub loop-f-init : goal.loop-f-init
unfolding those
loop-f-init c = (placed-start _ _, refl)

pub loop-f-preserved : goal.loop-f-preserved
loop-f-preserved c =
    let row = c.args.self in
    let i = c.loop-f.invariant in
    (placed-next _ _ _ _ i.0, rw (some-those-suc, ← i.1, cell-placed _ _ _ _ _ i.0 c.loop-f-test.true) (above-joined c.loop-f.joined (get_or (row_at row.matrix.now row.start row.folders) c.loop-f.f 0)))

pub returns : goal.returns
unfolding aboves
returns c =
    let row = c.args.self in
    c.loop-f.invariant.1 ∙ ap (λ n. some (those (above (row_at row.matrix.now row.start row.folders)) n)) (omega arith ∙ sym row.whole)
