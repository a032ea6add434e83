-- `least` meets its contract: it is the first folder that the walk has passed and that passes the test, or the row's length.
use Rattle.std.proofs.Common.{refl, arith, ◌≡◌, length}
use Rattle.vocabulary.specs.Those.{those}
use Rattle.vocabulary.proofs.Place.{placed-start, placed-next, cell-placed}
use Rattle.row.proofs.Found.{least-next, found-below, found-end}
use Rattle.row.proofs.walks.least.Goals as goal

pub loop-f-init : goal.loop-f-init
unfolding those
loop-f-init g c = (c.requires, placed-start _ _, refl, λ p tells. refl)

pub loop-f-preserved : goal.loop-f-preserved
loop-f-preserved g c =
    let i = c.loop-f.invariant in
    let t = c.loop-f-test.true in (
      i.0,
      placed-next _ _ _ _ i.1,
      i.2,
      λ p tells. rw (c.min-least.ensures, c.choose.ensures, tells _ _ _ _ c.test-found.ensures, c.new-label.ensures, c.from-i.ensures, cell-placed _ _ _ _ _ i.1 t, i.3 p tells) (least-next _ _ _ t),
    )

pub returns-then-least-none : goal.returns-then-least-none
returns-then-least-none g c =
    let end : c.loop-f.f ≡ length c.args.folders.labels.classes.now = omega arith in
    λ p tells. found-below _ _ _ (rw end at c.loop-f.invariant.3 p tells) c.if-least-none.true

pub returns : goal.returns
returns g c =
    let end : c.loop-f.f ≡ length c.args.folders.labels.classes.now = omega arith in
    λ p tells. found-end _ _ _ (rw end at c.loop-f.invariant.3 p tells) c.if-least-none.false
