-- `first_from` meets its contract: no folder that the walk has passed may be read with its client marked.
use Rattle.std.proofs.Common.{sym, ◌≡◌, ◌∙◌, arith, length}
use Rattle.vocabulary.proofs.Those.{those-none, first_found, first-end}
use Rattle.vocabulary.proofs.Place.{placed-next}
use Rattle.row_marks.proofs.Rows.{cells-length}
use borrow.Author.Tests.{eq-eqb, ne_eqb}
use Rattle.row_marks.proofs.walk.Walk.first_from.Goals as goal

pub returns-then-found-eq1 : goal.returns-then-found-eq1
returns-then-found-eq1 c =
    sym (first_found _ _ _ _ c.loop-f.invariant.1 (rw (← c.found.ensures) (eq-eqb _ _ c.if-found-eq1.true)) (omega (arith, cells-length c.args.self.row, c.loop-f-test.true)))

pub loop-f-preserved : goal.loop-f-preserved
loop-f-preserved c =
    let i = c.loop-f.invariant in
    (placed-next _ _ _ _ i.0, those-none _ _ i.1 (rw (← c.found.ensures) (ne_eqb _ _ c.if-found-eq1.false)))

pub returns : goal.returns
returns c =
    let row = c.args.self.row in
    let end : c.loop-f.f ≡ length row.clients.now = omega arith in
    sym end ∙ sym (first-end _ c.loop-f.f _ c.loop-f.invariant.1 (omega (arith, cells-length row)) (omega (arith, cells-length row)))
