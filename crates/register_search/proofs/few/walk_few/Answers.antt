-- `walk_few` meets its contract: no folder that the loop has passed differs from an earlier one, and each has left its mark.
use Rattle.std.proofs.Common.{refl, sym, ◌∙◌}
use Rattle.register.specs.Register.{later}
use Rattle.vocabulary.specs.Those.{those}
use Rattle.vocabulary.proofs.Those.{those-none}
use Rattle.register_search.proofs.First.{first-found, first-none}
use Rattle.register_search.proofs.Marks.{marked-none, marked_more}
use Rattle.register_search.proofs.few.walk_few.Goals as goal

pub loop-f-init : goal.loop-f-init
unfolding those
loop-f-init c =
    (refl, marked-none _)

pub returns-then-clashes_by : goal.returns-then-clashes_by
unfolding later
returns-then-clashes_by c =
    first-found _ _ _ c.loop-f.invariant.0 (sym c.clashes_by.ensures ∙ c.if-clashes_by.true) c.loop-f-test.true

pub loop-f-preserved : goal.loop-f-preserved
loop-f-preserved c =
    (those-none _ _ c.loop-f.invariant.0 (sym c.clashes_by.ensures ∙ c.if-clashes_by.false), rw c.from-place.ensures (marked_more _ _ _ c.loop-f.invariant.1))

pub returns : goal.returns
unfolding later
returns c =
    first-none _ _ _ c.loop-f.invariant.0 c.loop-f-test.false c.loop-f.auto.f-end
