-- `count_named` meets its contract: the count is that of the pairs that the loop has passed.
use Rattle.std.proofs.Common.{arith, refl}
use Rattle.vocabulary.specs.Those.{those}
use Rattle.vocabulary.proofs.Bools.{bool_byte-most}
use Rattle.row_pairs.proofs.Opponents.{length-those-suc}
use Rattle.row_pairs.proofs.listing.count_named.Goals as goal

pub loop-i-init : goal.loop-i-init
unfolding those
loop-i-init c = (omega arith, refl)

pub loop-i-preserved : goal.loop-i-preserved
loop-i-preserved c =
    let i = c.loop-i.invariant in
    (omega (arith, i.0, c.from-count.ensures, bool_byte-most c.names.result), rw (length-those-suc, c.from-count.ensures, c.names.ensures, i.1))
