-- `checked` meets its contract: too many folders are refused at once; else the register's check speaks.
use Rattle.std.proofs.Common.{arith, [], refl, sym, ap, ◌≡◌, ◌≤◌, ◌∙◌}
use Rattle.vocabulary.specs.Answer.{answer}
use Rattle.desk_opening.specs.declared.heading.Filing.{Filing}
use Rattle.register.specs.Fault.{fault_answer}
use Rattle.register_check.specs.Verdict.{verdict_answer}
use Rattle.register.specs.Register.{register_of, register_answer}
use Rattle.register_check.proofs.NotAccepted.{not-accepted}
use Rattle.desk_opening.specs.Opened.{opened_with}
use Rattle.desk_opening.proofs.Opened.{register-over, accepted-few}
use Rattle.desk_opening.proofs.Filed.{kept-classes, kept-clients, kept-folders, kept-place}
use Rattle.desk_opening.proofs.heading.checked.Goals as goal

pub returns-then-folders-gt512 : goal.returns-then-folders-gt512
unfolding opened_with
returns-then-folders-gt512 c f k =
    rw (c.bad_register.ensures, register-over c.args.logins f.classes f.clients (omega (arith, kept-folders f c.args.filing k))) refl

-- the check is of the folders that are kept
pub invariant_of-result : goal.invariant_of-result
invariant_of-result c =
    let f = c.requires.0 in
    let k = c.requires.1 in
    let filing = c.args.filing in
    let few : filing.folders ≤ 512 = c.if-folders-gt512.false in
    let accepted : register_answer (register_of c.args.logins f.classes f.clients) ≡ answer 0 [] =
    sym (rw (c.from-logins.ensures, kept-classes f filing k few, kept-clients f filing k few) at c.check.ensures) ∙ ap verdict_answer c.in-Ok.is in
    record {
      logins-few = rw c.from-logins.ensures (accepted-few (register_of c.args.logins f.classes f.clients) accepted);
      folders-few = few;
      classes = rw (kept-classes f filing k few) (ap (λ (x : Filing). x.classes) k.kept);
      clients = rw (kept-clients f filing k few) (ap (λ (x : Filing). x.clients) k.kept);
    }

pub returns-in-Ok : goal.returns-in-Ok
unfolding opened_with
returns-in-Ok c f k =
    let filing = c.args.filing in
    let few : filing.folders ≤ 512 = c.if-folders-gt512.false in
    let accepted : register_answer (register_of c.args.logins f.classes f.clients) ≡ answer 0 [] =
    sym (rw (c.from-logins.ensures, kept-classes f filing k few, kept-clients f filing k few) at c.check.ensures) ∙ ap verdict_answer c.in-Ok.is in
    rw (c.from-logins.ensures, kept-classes f filing k few, kept-clients f filing k few, kept-place f filing k, accepted) refl

pub returns-in-Err : goal.returns-in-Err
unfolding opened_with
returns-in-Err c f k =
    let filing = c.args.filing in
    let few : filing.folders ≤ 512 = c.if-folders-gt512.false in
    let judged : fault_answer c.in-Err.fault ≡ register_answer (register_of c.args.logins f.classes f.clients) =
    rw (c.in-Err.is, c.from-logins.ensures, kept-classes f filing k few, kept-clients f filing k few) at c.check.ensures in
    rw (c.bad_register-in-Err.ensures, ← judged, not-accepted c.in-Err.fault) refl
