-- `decide_by_classes` meets its contract: rows 1 and 6 of the table, then the wall's, by classes.
use Rattle.std.proofs.Common.{sym, refl, ◌∙◌}
use Rattle.std.proofs.lemmas.Result.{err_from_is_err_and}
use Rattle.cell_rules.specs.Cut.{is_rival}
use Rattle.row.proofs.Cut.{says-unfit, says-unknown, says-wall}
use Rattle.row.proofs.decide_by_classes.Goals as goal

pub returns-in_default : goal.returns-in_default
returns-in_default c =
    λ firsts seconds. says-unfit _ _ _ _ (sym c.in_default.ensures.fits)

pub returns-then-not-has : goal.returns-then-not-has
returns-then-not-has c =
    λ firsts seconds. says-unknown _ _ _ _ (sym c.in-Some.ensures.fits) refl (sym c.has.ensures ∙ c.if-not-has.true)

pub returns-in_err-rule : goal.returns-in_err-rule
returns-in_err-rule c =
    let kept = c.in-Some.ensures.kept in
    let refused = err_from_is_err_and c.from_residual.result c.from_residual.ensures.1 in
    let past = rw (kept.0, kept.1) at (c.in_err-rule.ensures _ (c.find-rival.ensures is_rival (λ n f o r g. g.2))) in
    λ firsts seconds. rw (refused.1, refused.2) (says-wall _ _ _ _ (sym c.in-Some.ensures.fits) refl (sym c.has.ensures ∙ c.if-not-has.false) _ c.label_of-o.ensures past)

pub returns : goal.returns
returns c =
    let kept = c.in-Some.ensures.kept in
    let past = rw (kept.0, kept.1) at (c.in_ok-rule.ensures _ (c.find-rival.ensures is_rival (λ n f o r g. g.2))) in
    λ firsts seconds. says-wall _ _ _ _ (sym c.in-Some.ensures.fits) refl (sym c.has.ensures ∙ c.if-not-has.false) _ c.label_of-o.ensures past
