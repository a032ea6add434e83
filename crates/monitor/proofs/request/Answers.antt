-- `request` meets its contract: a refusal of the first rows is the outcome; otherwise the person's row is served in its place in the matrix.
use Rattle.std.proofs.Common.{arith, ◌∙◌}
use Rattle.register.specs.Lent.{register_lent}
use Rattle.response.proofs.NotGranted.{refused}
use Rattle.log_writer.specs.Reply.{request_of, log_of}
use Rattle.monitor.proofs.FirstRows.{opened, row_within, outcome-served, outcome-refused}
use Rattle.monitor.proofs.request.Goals as goal

pub returns-in-Err : goal.returns-in-Err
returns-in-Err c =
    let s = c.args in
    outcome-refused (register_lent s.register.now) s.persons.now s.matrix.now (request_of s.asked) (log_of s.log.now s.tail) _ (refused c.in-Err.refusal) (rw c.in-Err.is at c.judge_front.ensures)

pub row_start-start-requires : goal.row_start-start-requires
row_start-start-requires c =
    let w = row_within (opened _ _ c.args.matrix.now _ _ (rw c.in_default.is at c.judge_front.ensures)) in
    rw c.person_of-person.ensures (omega (arith, w.0, w.1))

pub returns : goal.returns
returns c =
    let s = c.args in
    let r = s.register.now in
    let o = opened _ _ s.matrix.now _ _ (rw c.in_default.is at c.judge_front.ensures) in
    c.serve.ensures ∙ rw (c.row_start-start.ensures, c.person_of-person.ensures) (outcome-served r.logins r.labels.classes.now r.labels.clients.now r.by_pairs r.pairs.firsts.now r.pairs.seconds.now s.persons.now s.matrix.now (request_of s.asked) (log_of s.log.now s.tail) o)
