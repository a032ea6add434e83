-- `serve` meets its contract: each decision is carried out as the rules leave it, in the row's place.
use Rattle.std.proofs.Common.{◌∙◌, length}
use Rattle.std.specs.Prelude.{Err}
use Rattle.vocabulary.specs.Place.{row_at}
use Rattle.register.specs.Lent.{folders_lent}
use Rattle.log_writer.specs.Reply.{request_of, log_of}
use Rattle.row_request.proofs.InMatrix.{granted-at, barred-at, refused-at}
use Rattle.row_request.proofs.Served.{granted-sound}
use Rattle.row_request.proofs.NotLogged.{not-logged}
use Rattle.row_request.proofs.serve.Goals as goal

pub grant-requires : goal.grant-requires
grant-requires c =
    let a = c.args in
    granted-sound (folders_lent a.register.now) (row_at a.matrix.now a.start (length a.register.now.labels.classes.now)) (request_of a.asked) (log_of a.log.now a.tail) _ (rw c.in-Ok.is at c.decide_row.ensures)

pub returns-in-Ok : goal.returns-in-Ok
returns-in-Ok c =
    let a = c.args in
    c.grant.ensures ∙ granted-at (folders_lent a.register.now) a.matrix.now a.start (request_of a.asked) (log_of a.log.now a.tail) _ (rw c.in-Ok.is at c.decide_row.ensures)

pub returns-in-Wall : goal.returns-in-Wall
returns-in-Wall c =
    let a = c.args in
    c.log_refusal.ensures a.matrix.now ∙ barred-at (folders_lent a.register.now) a.matrix.now a.start (request_of a.asked) (log_of a.log.now a.tail) c.in-Wall.by_wall (rw (c.in-Err.is, c.in-Wall.is) at c.decide_row.ensures)

pub returns-in_default : goal.returns-in_default
returns-in_default c =
    let a = c.args in
    refused-at (folders_lent a.register.now) a.matrix.now a.start (request_of a.asked) (log_of a.log.now a.tail) (Err c.in-Err.refusal) (not-logged c.in-Err.refusal c.in_default.not-Wall) (rw c.in-Err.is at c.decide_row.ensures)
