-- `seek_above` meets its contract: no cell that the walk has passed is above 3.
use Rattle.std.proofs.Common.{arith, refl, sym, ◌≡◌, ◌∙◌}
use Rattle.vocabulary.specs.Those.{those}
use Rattle.vocabulary.proofs.Those.{first-end, those-none, first_found}
use Rattle.vocabulary.proofs.Place.{placed-start, placed-next, cell-placed}
use Rattle.cells.specs.Above.{aboves}
use borrow.Author.Tests.{lt-ltb, le-ltb}
use Rattle.cells.proofs.whole.WholeRow.seek_above.Goals as goal

pub loop-f-init : goal.loop-f-init
unfolding those
loop-f-init c = (placed-start _ _, refl)

pub returns-then-self-place-gt3 : goal.returns-then-self-place-gt3
unfolding aboves
returns-then-self-place-gt3 c =
    let i = c.loop-f.invariant in
    let t = c.loop-f-test.true in
    sym (first_found _ _ _ _ i.1 (rw (← cell-placed _ _ _ _ _ i.0 t) (lt-ltb _ _ c.if-self-place-gt3.true)) (rw c.args.self.whole t))

pub loop-f-preserved : goal.loop-f-preserved
loop-f-preserved c =
    let i = c.loop-f.invariant in
    (placed-next _ _ _ _ i.0, those-none _ _ i.1 (rw (← cell-placed _ _ _ _ _ i.0 c.loop-f-test.true) (le-ltb _ _ c.if-self-place-gt3.false)))

pub returns : goal.returns
unfolding aboves
returns c =
    let end : c.loop-f.f ≡ c.args.self.folders = omega arith in
    sym end ∙ sym (first-end _ c.loop-f.f _ c.loop-f.invariant.1 (omega (arith, c.args.self.whole)) (omega (arith, c.args.self.whole)))
