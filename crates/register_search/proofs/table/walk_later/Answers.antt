-- `walk_later` meets its contract: no folder that the loop has passed differs from an earlier one, and the table holds them all.
use Rattle.std.proofs.Common.{refl, sym, ◌∙◌}
use Rattle.register.specs.Register.{later}
use Rattle.vocabulary.specs.Those.{those}
use Rattle.vocabulary.proofs.Those.{those-none}
use Rattle.register_search.proofs.Chains.{chained-none, past_last-le}
use Rattle.register_search.proofs.First.{first-found, first-none}
use Rattle.register_search.proofs.Later.{told-step, last-telling}
use Rattle.register_search.proofs.table.walk_later.Goals as goal

pub loop-f-init : goal.loop-f-init
unfolding those
loop-f-init c =
    (refl, chained-none _)

pub clashes-requires : goal.clashes-requires
clashes-requires c =
    (c.loop-f-test.true, rw c.in-Some.ensures (past_last-le _ _))

pub returns-then-clashes : goal.returns-then-clashes
unfolding later
returns-then-clashes c =
    let p = c.in-Some.ensures in
    let i = c.loop-f.invariant.0 in
    first-found _ _ _ i (told-step _ _ i _ (last-telling _ _) (past_last-le _ _) ∙ rw p at (sym c.clashes.ensures ∙ c.if-clashes.true)) c.loop-f-test.true

pub loop-f-preserved : goal.loop-f-preserved
loop-f-preserved c =
    let p = c.in-Some.ensures in
    let i = c.loop-f.invariant.0 in
    (those-none _ _ i (told-step _ _ i _ (last-telling _ _) (past_last-le _ _) ∙ rw p at (sym c.clashes.ensures ∙ c.if-clashes.false)), c.enter.ensures)

pub returns : goal.returns
unfolding later
returns c =
    first-none _ _ _ c.loop-f.invariant.0 c.loop-f-test.false c.loop-f.auto.f-end
