-- `check` meets its contract: the labels' rows speak first, then the pairs'.
use Rattle.std.proofs.Common.{◌∙◌}
use Rattle.std.proofs.lemmas.Result.{err_from_is_err_and}
use Rattle.register.specs.Lent.{register_lent}
use Rattle.register.specs.Fault.{fault_answer}
use Rattle.register_check.proofs.Answers.{answer-pairs, answer-refused}
use Rattle.register_check.proofs.NotAccepted.{not-accepted}
use Rattle.register_check.proofs.check.Goals as goal

pub returns-in_err-check_labels : goal.returns-in_err-check_labels
returns-in_err-check_labels c =
    let fault = c.in_err-check_labels.field-0.0 in
    let p = err_from_is_err_and c.from_residual.result c.from_residual.ensures.1 in
    rw (p.1, p.2) (answer-refused (register_lent c.args.register.now) (fault_answer fault) (not-accepted fault) c.in_err-check_labels.ensures)

pub returns : goal.returns
returns c =
    c.check_pairs.ensures ∙ answer-pairs (register_lent c.args.register.now) c.in_ok-check_labels.ensures
