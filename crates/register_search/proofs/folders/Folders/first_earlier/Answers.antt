-- `first_earlier` meets its contract: `f` differs from no folder that the loop has passed.
use Rattle.std.proofs.Common.{refl, sym, ◌∙◌}
use Rattle.register.specs.Register.{earlier}
use Rattle.vocabulary.specs.Those.{those}
use Rattle.vocabulary.proofs.Those.{those-none}
use Rattle.register_search.proofs.First.{first-found, first-none}
use Rattle.register_search.proofs.folders.Folders.first_earlier.Goals as goal

pub loop-g-init : goal.loop-g-init
unfolding those
loop-g-init c = refl

pub returns-then-differ : goal.returns-then-differ
unfolding earlier
returns-then-differ c =
    first-found _ _ _ c.loop-g.invariant (rw (c.label-label.ensures, c.label.ensures) at (sym c.differ.ensures ∙ c.if-differ.true)) c.loop-g-test.true

pub loop-g-preserved : goal.loop-g-preserved
loop-g-preserved c =
    those-none _ _ c.loop-g.invariant (rw (c.label-label.ensures, c.label.ensures) at (sym c.differ.ensures ∙ c.if-differ.false))

pub returns : goal.returns
unfolding earlier
returns c =
    first-none _ _ _ c.loop-g.invariant c.loop-g-test.false c.loop-g.auto.g-end
