-- `any` meets its contract: the flag says whether a folder that the walk has passed passes the test.
use Rattle.std.proofs.Common.{refl}
use Rattle.vocabulary.specs.Those.{those}
use Rattle.vocabulary.proofs.Those.{some-those-suc}
use Rattle.vocabulary.proofs.Place.{placed-start, placed-next, cell-placed}
use Rattle.row.proofs.walks.any.Goals as goal

pub loop-f-init : goal.loop-f-init
unfolding those
loop-f-init g c = (c.requires, placed-start _ _, λ p tells. refl)

pub loop-f-preserved : goal.loop-f-preserved
loop-f-preserved g c =
    let i = c.loop-f.invariant in (
      i.0,
      placed-next _ _ _ _ i.1,
      λ p tells. rw (some-those-suc, ← i.2 p tells, tells _ _ _ _ c.test-seen.ensures, c.new-label.ensures, cell-placed _ _ _ _ _ i.1 c.loop-f-test.true) refl,
    )
