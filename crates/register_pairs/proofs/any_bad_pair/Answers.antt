-- `any_bad_pair` meets its contract: the flag says whether a pair that the loop has passed is at fault.
use Rattle.std.proofs.Common.{refl}
use Rattle.vocabulary.specs.Those.{those}
use Rattle.vocabulary.proofs.Those.{some-those-suc}
use Rattle.register_pairs.proofs.any_bad_pair.Goals as goal

pub loop-i-init : goal.loop-i-init
unfolding those
loop-i-init c = refl

pub loop-i-preserved : goal.loop-i-preserved
loop-i-preserved c = rw (some-those-suc, c.bad_pair-any.ensures, c.loop-i.invariant)
