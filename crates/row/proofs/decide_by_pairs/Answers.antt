-- `decide_by_pairs` meets its contract: rows 1, 11 and 6 of the table, then the wall's, by pairs.
use Rattle.std.proofs.Common.{sym, ap, not, ◌∙◌}
use Rattle.std.proofs.lemmas.Result.{err_from_is_err_and}
use Rattle.row.proofs.Cut.{says-unfit, says-pairs, says-unknown, says-wall}
use Rattle.row.proofs.decide_by_pairs.Goals as goal

pub returns-in_default : goal.returns-in_default
returns-in_default c =
    says-unfit _ _ _ _ (sym c.in_default.ensures.fits)

pub returns-then-not-pairs_fit : goal.returns-then-not-pairs_fit
returns-then-not-pairs_fit c =
    says-pairs _ _ _ _ (sym c.in-Some.ensures.fits) (ap not (sym c.pairs_fit.ensures ∙ c.if-not-pairs_fit.true))

pub returns-then-not-has : goal.returns-then-not-has
returns-then-not-has c =
    says-unknown _ _ _ _ (sym c.in-Some.ensures.fits) (ap not (sym c.pairs_fit.ensures ∙ c.if-not-pairs_fit.false)) (sym c.has.ensures ∙ c.if-not-has.true)

pub returns-in_err-rule : goal.returns-in_err-rule
returns-in_err-rule c =
    let kept = c.in-Some.ensures.kept in
    let refused = err_from_is_err_and c.from_residual.result c.from_residual.ensures.1 in
    let past = rw (kept.0, kept.1) at (c.in_err-rule.ensures _ c.first_opposer-rival.ensures) in
    rw (refused.1, refused.2) (says-wall _ _ _ _ (sym c.in-Some.ensures.fits) (ap not (sym c.pairs_fit.ensures ∙ c.if-not-pairs_fit.false)) (sym c.has.ensures ∙ c.if-not-has.false) _ c.label_of-o.ensures past)

pub returns : goal.returns
returns c =
    let kept = c.in-Some.ensures.kept in
    let past = rw (kept.0, kept.1) at (c.in_ok-rule.ensures _ c.first_opposer-rival.ensures) in
    says-wall _ _ _ _ (sym c.in-Some.ensures.fits) (ap not (sym c.pairs_fit.ensures ∙ c.if-not-pairs_fit.false)) (sym c.has.ensures ∙ c.if-not-has.false) _ c.label_of-o.ensures past
