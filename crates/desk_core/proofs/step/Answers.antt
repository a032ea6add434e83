-- `step` meets its contract: a request's reply is printed as its line; anything else ends the run. That the serial is one of 16 bits is
-- what owning the tail tells (`good`).
use Rattle.std.proofs.Common.{arith, refl, sym, ◌∙◌}
use Rattle.log_writer.specs.Reply.{log_of}
use Rattle.register.specs.Register.{register_of}
use Rattle.desk_lines.specs.Lines.{line_at}
use Rattle.desk_core.proofs.Stepped.{a-request, stepped-over, stepped-request}
use Rattle.desk_core.proofs.step.Goals as goal

pub returns : goal.returns
returns c =
    let a = c.args in
    stepped-request a.text.now (register_of a.logins a.labels.classes.now a.labels.clients.now) a.persons.now a.place a.matrix.now (log_of a.log.now a.tail) _ _ _ _ (a-request (line_at a.text.now a.place) c.in-Some.asked c.in-Some.next (sym c.request_at.ensures ∙ c.in-Some.is)) (omega arith) c.request-reply.result _ _ _ c.request-reply.ensures c.answer_line.ensures

pub returns-in_default : goal.returns-in_default
returns-in_default c =
    let a = c.args in
    rw (c.ending.ensures, stepped-over a.text.now (register_of a.logins a.labels.classes.now a.labels.clients.now) a.persons.now a.place a.matrix.now (log_of a.log.now a.tail) (sym c.request_at.ensures ∙ c.in_default.is)) refl
