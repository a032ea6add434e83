-- `first_lone_zero` meets its contract: no folder that the loop has passed has a lone 0.
use Rattle.std.proofs.Common.{refl, sym, ◌∙◌}
use Rattle.vocabulary.specs.Those.{those}
use Rattle.vocabulary.proofs.Those.{those-none}
use Rattle.register_search.proofs.First.{first-found, first-none}
use Rattle.register_check.proofs.zeros.first_lone_zero.Goals as goal

pub loop-f-init : goal.loop-f-init
unfolding those
loop-f-init c = refl

pub returns-then-lone_zero : goal.returns-then-lone_zero
returns-then-lone_zero c =
    first-found _ _ _ c.loop-f.invariant (sym c.lone_zero.ensures ∙ c.if-lone_zero.true) c.loop-f-test.true

pub loop-f-preserved : goal.loop-f-preserved
loop-f-preserved c =
    those-none _ _ c.loop-f.invariant (sym c.lone_zero.ensures ∙ c.if-lone_zero.false)

pub returns : goal.returns
returns c =
    first-none _ _ _ c.loop-f.invariant c.loop-f-test.false c.loop-f.auto.f-end
