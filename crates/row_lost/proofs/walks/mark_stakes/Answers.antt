-- `mark_stakes` meets its contract. The invariant: the folders that the walk has passed are marked.
use Rattle.std.proofs.Common.{refl, arith, length, ◌<◌}
use lib.ListN.{length-set}
use Rattle.vocabulary.proofs.Place.{placed-start, placed-next, cell-placed}
use Rattle.row_lost.proofs.Marked.{marked-none, marked_next}
use Rattle.row_lost.proofs.walks.mark_stakes.Goals as goal

pub loop-f-init : goal.loop-f-init
loop-f-init c = (placed-start _ _, refl, marked-none _ _)

pub loop-f-preserved : goal.loop-f-preserved
loop-f-preserved c =
    let i = c.loop-f.invariant in
    let inside : c.loop-f.f < length c.loop-f.marks = omega arith in (
      placed-next _ _ _ _ i.0,
      rw length-set i.1,
      rw (c.is_at_stake.ensures, c.new-label.ensures, cell-placed _ _ _ _ _ i.0 c.loop-f-test.true) (marked_next _ _ _ inside i.2),
    )
