-- `rule` meets its contract: the first of the three searches that finds a folder speaks, where the kind asks for it.
use Rattle.std.proofs.Common.{sym, ◌∙◌}
use borrow.Author.Tests.{eq-eqb, ne_eqb}
use Rattle.cell_rules.specs.Cut.{is_foreign, is_at_stake}
use Rattle.vocabulary.specs.Answer.{judge}
use Rattle.row.specs.Cut.{wall_by}
use Rattle.row.proofs.Cut.{writes-other}
use Rattle.row.proofs.Found.{found-is, none-is}
use Rattle.row.proofs.rule.Goals as goal

pub returns-in-Some : goal.returns-in-Some
unfolding wall_by judge
returns-in-Some c = λ rivals is. let p = found-is rivals (sym c.in-Some.is ∙ is) in rw (p.0, p.1)

pub returns-in-Some-find : goal.returns-in-Some-find
unfolding wall_by judge
returns-in-Some-find c =
    λ rivals is.
    let p = found-is _ (sym c.in-Some-find.is ∙ c.find.ensures is_foreign (λ n f o r g. g.2)) in
    rw (none-is rivals (sym c.in_default.is ∙ is), sym c.writes.ensures ∙ c.if-writes.true, p.0, p.1)

pub returns-in-None : goal.returns-in-None
unfolding wall_by judge
returns-in-None c =
    λ rivals is.
    let writing = sym c.writes.ensures ∙ c.if-writes.true in
    rw (none-is rivals (sym c.in_default.is ∙ is), writing, none-is _ (sym c.in-None.is ∙ c.find.ensures is_foreign (λ n f o r g. g.2)), writes-other _ writing)

pub returns-in-Some-find-2 : goal.returns-in-Some-find-2
unfolding wall_by judge
returns-in-Some-find-2 c =
    λ rivals is.
    let p = found-is _ (sym c.in-Some-find-2.is ∙ c.find-then-kind-eq2.ensures is_at_stake (λ n f o r g. g.2)) in
    rw (none-is rivals (sym c.in_default.is ∙ is), sym c.writes.ensures ∙ c.if-writes.false, eq-eqb _ _ c.if-kind-eq2.true, p.0, p.1)

pub returns-in-None-find : goal.returns-in-None-find
unfolding wall_by judge
returns-in-None-find c =
    λ rivals is.
    let none = none-is _ (sym c.in-None-find.is ∙ c.find-then-kind-eq2.ensures is_at_stake (λ n f o r g. g.2)) in
    rw (none-is rivals (sym c.in_default.is ∙ is), sym c.writes.ensures ∙ c.if-writes.false, eq-eqb _ _ c.if-kind-eq2.true, none)

pub returns : goal.returns
unfolding wall_by judge
returns c =
    λ rivals is. rw (none-is rivals (sym c.in_default.is ∙ is), sym c.writes.ensures ∙ c.if-writes.false, ne_eqb _ _ c.if-kind-eq2.false)
