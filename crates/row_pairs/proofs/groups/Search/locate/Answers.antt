-- `locate` meets its contract: no folder of the blocks that the loop has passed is readable and of one of the four.
use Rattle.std.proofs.Common.{arith, refl, sym, ◌∙◌}
use Rattle.vocabulary.specs.Those.{those}
use Rattle.vocabulary.proofs.Those.{some-none}
use Rattle.vocabulary.proofs.Place.{placed-start, placed_on}
use Rattle.row_pairs.proofs.groups.Search.locate.Goals as goal

pub loop-f-init : goal.loop-f-init
unfolding those
loop-f-init c = (omega arith, placed-start _ _, refl)

pub loop-f-preserved : goal.loop-f-preserved
loop-f-preserved c =
    let i = c.loop-f.invariant in
    (omega arith, placed_on _ _ _ _ 32 i.1, some-none _ (sym c.any.ensures ∙ c.if-any.false))
