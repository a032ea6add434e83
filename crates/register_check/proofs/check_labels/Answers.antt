-- `check_labels` meets its contract: each return is one case of the table for the labels.
use Rattle.std.proofs.Common.{rules, sym, ◌∙◌}
use Rattle.register.specs.Register.{register_of}
use Rattle.register.proofs.Answers.{answer-range}
use Rattle.register_check.proofs.Answers.{lone-below, answer-lone, answer-search}
use Rattle.register_check.proofs.check_labels.Goals as goal

pub returns-then-not-in_range : goal.returns-then-not-in_range
returns-then-not-in_range c =
    sym (answer-range _ (sym c.in_range.ensures ∙ c.if-not-in_range.true))

pub overflow_cast-result : goal.overflow_cast-result
overflow_cast-result c =
    let a = c.args in
    search (rules, lone-below (register_of a.logins a.labels.classes.now a.labels.clients.now) _ (sym c.in_range.ensures ∙ c.if-not-in_range.false) c.in-Some.ensures)

pub returns-in-Some : goal.returns-in-Some
returns-in-Some c =
    sym (answer-lone _ _ (sym c.in_range.ensures ∙ c.if-not-in_range.false) c.in-Some.ensures)

pub returns-in-Some-first_clash : goal.returns-in-Some-first_clash
returns-in-Some-first_clash c =
    c.in-Some-first_clash.ensures ∙ sym (answer-search _ _ _ (sym c.in_range.ensures ∙ c.if-not-in_range.false) c.in_default.ensures)

pub returns : goal.returns
returns c =
    c.in_default-first_clash.ensures ∙ sym (answer-search _ _ _ (sym c.in_range.ensures ∙ c.if-not-in_range.false) c.in_default.ensures)
