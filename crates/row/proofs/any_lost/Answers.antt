-- `any_lost` meets its contract: what is at stake is lost where lists and folder fit and the kind revokes, and nothing elsewhere.
use Rattle.std.proofs.Common.{sym, ap, ◌∙◌}
use Rattle.vocabulary.specs.Those.{some}
use Rattle.cell_rules.specs.Cut.{is_at_stake}
use Rattle.row.proofs.Cut.{lost-stakes, lost-unfit, lost-unknown, lost-kept}
use Rattle.row.proofs.any_lost.Goals as goal

pub returns-in_default : goal.returns-in_default
returns-in_default c =
    ap some (sym (lost-unfit _ _ _ _ (sym c.in_default.ensures.fits)))

pub returns-then-not-has : goal.returns-then-not-has
returns-then-not-has c =
    ap some (sym (lost-unknown _ _ _ _ (sym c.has.ensures ∙ c.if-not-has.true)))

pub returns-then-revokes : goal.returns-then-revokes
returns-then-revokes c =
    let kept = c.in-Some.ensures.kept in
    let stakes = rw (kept.0, kept.1) at (c.any.ensures is_at_stake (λ n f o r g. g.2)) in
    stakes ∙ ap some (sym (lost-stakes _ _ _ _ (sym c.in-Some.ensures.fits) (sym c.has.ensures ∙ c.if-not-has.false) (sym c.revokes.ensures ∙ c.if-revokes.true) _ c.label_of-o.ensures))

pub returns-else-revokes : goal.returns-else-revokes
returns-else-revokes c =
    c.if-revokes.false ∙ ap some (sym (lost-kept _ _ _ _ (sym c.revokes.ensures ∙ c.if-revokes.false)))
