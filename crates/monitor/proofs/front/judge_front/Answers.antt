-- `judge_front` meets its contract: the register's rows come before the others.
use Rattle.std.proofs.Common.{◌≡◌, ◌∙◌}
use Rattle.std.proofs.lemmas.Result.{err_from_is_err_and}
use Rattle.vocabulary.proofs.Bools.{not-both}
use Rattle.register.specs.Lent.{register_lent}
use Rattle.register.specs.Fault.{fault_answer}
use Rattle.register_check.proofs.NotAccepted.{not-accepted}
use borrow.Author.Tests.{eq-eqb}
use Rattle.monitor.proofs.FirstRows.{registered-range, register-open, register-refused}
use Rattle.monitor.proofs.front.judge_front.Goals as goal

pub returns-in_err-check : goal.returns-in_err-check
returns-in_err-check c =
    let fault = c.in_err-check.field-0.0 in
    let p = err_from_is_err_and c.from_residual.result c.from_residual.ensures.1 in
    let refused : (fault_answer fault).number ≡ 0 → ⊥ = λ z. not-both (eq-eqb (fault_answer fault).number 0 z) (not-accepted fault) in
    rw (p.1, p.2) (register-refused (register_lent c.args.register.now) _ _ _ (fault_answer fault) refused c.in_err-check.ensures)

pub known-requires : goal.known-requires
known-requires c =
    let g = registered-range (register_lent c.args.register.now) c.in_ok-check.ensures in
    (g.logins-few, g.folders-few)

pub returns : goal.returns
returns c = c.known.ensures ∙ register-open (register_lent c.args.register.now) _ _ _ c.in_ok-check.ensures
