-- `search_from` meets its contract: no folder that the loop has passed differs from an earlier one.
use Rattle.std.proofs.Common.{sym, ◌∙◌}
use Rattle.register.specs.Register.{later}
use Rattle.vocabulary.proofs.Those.{those-none}
use Rattle.register_search.proofs.First.{first-found, first-none}
use Rattle.register_search.proofs.folders.Folders.search_from.Goals as goal

pub returns-then-any_earlier : goal.returns-then-any_earlier
unfolding later
returns-then-any_earlier c =
    first-found _ _ _ c.loop-f.invariant (sym c.any_earlier.ensures ∙ c.if-any_earlier.true) c.loop-f-test.true

pub loop-f-preserved : goal.loop-f-preserved
loop-f-preserved c =
    those-none _ _ c.loop-f.invariant (sym c.any_earlier.ensures ∙ c.if-any_earlier.false)

pub returns : goal.returns
unfolding later
returns c =
    first-none _ _ _ c.loop-f.invariant c.loop-f-test.false (c.loop-f.auto.f-end c.requires.0)
