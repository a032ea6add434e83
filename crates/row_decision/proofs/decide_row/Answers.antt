-- `decide_row` meets its contract: where the lists fit the row, rows 8 and 9 of the table speak before the row's crate, in either mode; where they
-- do not, `decide_unfit` has the answer.
use Rattle.std.proofs.Common.{sym, ◌≡◌, ◌∙◌, ap, true, false}
use borrow.Author.Rules.{rules}
use Rattle.row_labels.specs.Fitting.{lists_fit}
use Rattle.row_labels.proofs.Fitting.{lists-are}
use Rattle.row.specs.Row.{ruled}
use Rattle.row_decision.specs.Decision.{served_answer}
use Rattle.row_decision.proofs.Rows.{judged-large, judged-end, judged-past, served-unfit}
use Rattle.row_decision.proofs.decide_row.Goals as goal

pub returns-then-not-lists_fit : goal.returns-then-not-lists_fit
unfolding lists_fit
returns-then-not-lists_fit c =
    c.decide_unfit.ensures ∙ ap ruled (sym (served-unfit _ _ _ _ _ (sym c.lists_fit.ensures ∙ c.if-not-lists_fit.true)))

pub overflow_cast-result : goal.overflow_cast-result
overflow_cast-result c =
    let l = lists-are _ _ (sym c.lists_fit.ensures ∙ c.if-not-lists_fit.false) in
    search (rules, l.0.0, l.1)

pub returns-then-large-labels : goal.returns-then-large-labels
unfolding served_answer
returns-then-large-labels c =
    let l = lists-are _ _ (sym c.lists_fit.ensures ∙ c.if-not-lists_fit.false) in
    judged-large _ _ _ _ l.1 _ c.first_above-large.ensures (rw l.0.0 at c.if-large-labels.true)

pub returns-then-size-tail : goal.returns-then-size-tail
unfolding served_answer
returns-then-size-tail c =
    let l = lists-are _ _ (sym c.lists_fit.ensures ∙ c.if-not-lists_fit.false) in
    judged-end _ _ _ _ l.1 c.first_above-large.ensures (rw l.0.0 at c.if-large-labels.false) c.if-size-tail.true

pub returns-then-register : goal.returns-then-register
unfolding served_answer
returns-then-register c =
    let l = lists-are _ _ (sym c.lists_fit.ensures ∙ c.if-not-lists_fit.false) in
    let mode : c.args.register.now.by_pairs ≡ true = c.if-register.true in
    judged-past _ _ _ _ l.1 c.first_above-large.ensures (rw l.0.0 at c.if-large-labels.false) c.if-size-tail.false (rw mode c.decide_by_pairs.ensures)

pub returns : goal.returns
unfolding served_answer
returns c =
    let l = lists-are _ _ (sym c.lists_fit.ensures ∙ c.if-not-lists_fit.false) in
    let mode : c.args.register.now.by_pairs ≡ false = c.if-register.false in
    judged-past _ _ _ _ l.1 c.first_above-large.ensures (rw l.0.0 at c.if-large-labels.false) c.if-size-tail.false (rw mode (c.decide_by_classes.ensures _ _))
