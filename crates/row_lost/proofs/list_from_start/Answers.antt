-- `list_from_start` meets its contract: what is at stake is lost where lists, folder and array fit and the kind revokes, and nothing elsewhere.
use Rattle.std.proofs.Common.{sym, ◌∙◌}
use borrow.Author.Tests.{lt-ltb, le-ltb}
use Rattle.row_labels.proofs.Fitting.{lists-are}
use Rattle.row.proofs.Cut.{lost-stakes, lost-unfit, lost-unknown, lost-kept}
use Rattle.row_lost.proofs.Listed.{listed-same, stored-none}
use Rattle.row_lost.proofs.Within.{within-none, within-short, within-enough}
use Rattle.row_lost.proofs.list_from_start.Goals as goal

pub returns-in_default : goal.returns-in_default
returns-in_default c =
    stored-none (within-none _ _ _ _ _ (lost-unfit _ _ _ _ (sym c.in_default.ensures.fits)))

pub returns-then-labels-from : goal.returns-then-labels-from
returns-then-labels-from c =
    stored-none (within-none _ _ _ _ _ (lost-unknown _ _ _ _ (le-ltb _ _ (rw c.from.ensures at c.if-labels-from.true))))

pub returns-then-list-labels : goal.returns-then-list-labels
returns-then-list-labels c =
    stored-none (within-short _ _ _ _ _ (rw (lists-are _ _ (sym c.in-Some.ensures.fits)).0.0 at c.if-list-labels.true))

pub returns-then-not-revokes : goal.returns-then-not-revokes
returns-then-not-revokes c =
    stored-none (within-none _ _ _ _ _ (lost-kept _ _ _ _ (sym c.revokes.ensures ∙ c.if-not-revokes.true)))

pub returns : goal.returns
returns c =
    let kept = c.in-Some.ensures.kept in
    let stakes = lost-stakes _ _ _ _ (sym c.in-Some.ensures.fits) (lt-ltb _ _ (rw c.from.ensures at c.if-labels-from.false)) (sym c.revokes.ensures ∙ c.if-not-revokes.false) _ c.label_of-o.ensures in
    let enough = rw (lists-are _ _ (sym c.in-Some.ensures.fits)).0.0 at c.if-list-labels.false in
    listed-same (sym (within-enough _ _ _ _ _ enough ∙ stakes)) (rw (kept.0, kept.1) at c.list_stakes.ensures)
