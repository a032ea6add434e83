-- `any_lone_zero` meets its contract: the flag says whether a folder that the loop has passed has a lone 0.
use Rattle.std.proofs.Common.{refl}
use Rattle.vocabulary.specs.Those.{those}
use Rattle.vocabulary.proofs.Those.{some-those-suc}
use Rattle.register_check.proofs.zeros.any_lone_zero.Goals as goal

pub loop-f-init : goal.loop-f-init
unfolding those
loop-f-init c = refl

pub loop-f-preserved : goal.loop-f-preserved
loop-f-preserved c = rw (some-those-suc, c.lone_zero-any.ensures, c.loop-f.invariant)
