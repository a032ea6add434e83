-- `any_earlier` meets its contract: the flag says whether `f` differs from a folder that the loop has passed.
use Rattle.std.proofs.Common.{refl, ap, ◌∙◌}
use Rattle.register.specs.Register.{earlier}
use Rattle.vocabulary.specs.Those.{those, some}
use Rattle.vocabulary.proofs.Those.{some-those-suc, those-end}
use Rattle.register_search.proofs.folders.Folders.any_earlier.Goals as goal

pub loop-g-init : goal.loop-g-init
unfolding those
loop-g-init c = refl

pub loop-g-preserved : goal.loop-g-preserved
loop-g-preserved c =
    rw (some-those-suc, c.differ-any.ensures, c.label.ensures, c.label-label.ensures, c.loop-g.invariant)

pub returns : goal.returns
unfolding earlier
returns c =
    c.loop-g.invariant ∙ ap some (those-end _ _ _ c.loop-g-test.false c.loop-g.auto.g-end)
