-- `first` meets its contract: no folder that the loop has passed is readable and of one of the four.
use Rattle.std.proofs.Common.{◌≡◌, ◌∙◌, arith, sym}
use Rattle.vocabulary.proofs.Those.{first-end, those-none, first_found}
use Rattle.vocabulary.proofs.Place.{placed-next}
use Rattle.row_pairs.proofs.groups.Search.first.Goals as goal

pub returns-then-found : goal.returns-then-found
returns-then-found c =
    sym (first_found _ _ _ _ c.loop-f.invariant.1 (sym c.found.ensures ∙ c.if-found.true) (omega (arith, c.loop-f-test.true)))

pub loop-f-preserved : goal.loop-f-preserved
loop-f-preserved c =
    let i = c.loop-f.invariant in
    (placed-next _ _ _ _ i.0, those-none _ _ i.1 (sym c.found.ensures ∙ c.if-found.false))

pub returns : goal.returns
returns c =
    let end : c.loop-f.f ≡ c.args.to = omega arith in
    sym end ∙ sym (first-end _ c.loop-f.f _ c.loop-f.invariant.1 (omega arith) (omega arith))
