-- A request on a row alone: what is answered and what is left (document 01, 'Where each refusal is checked', rows 8 to 30). Row, lists, folder
-- and kind may be any; a kind other than 1 to 4 asks for nothing and is logged as it is.
use Rattle.std.specs.Prelude.{ℕ, cond, List, eqb, length}
use Rattle.vocabulary.specs.Answer.{Answer}
use Rattle.vocabulary.specs.Place.{row_at, with_row_at}
use Rattle.register.specs.Register.{Register, folders}
use Rattle.policy.specs.Outcome.{Request, Log, Outcome, is_logged, logged, unchanged, told}
use Rattle.row_grant.specs.Granted.{row_granted}
use Rattle.row_decision.specs.Decision.{served_answer}

-- What a request leaves on a row: the row stands in the matrix's place.
unfoldable pub served_outcome : Register → List ℕ → Request → Log → Outcome
served_outcome r row q log =
    let a : Answer = served_answer r row q (length log.bytes) log.end in
    let after : List ℕ = cond (eqb a.number 0) (row_granted r row q.folder q.kind) row in
    told (cond (is_logged a) (logged q log a row after) (unchanged a row log))

-- The same in a matrix: the row that starts at a place, with its F cells as far as the matrix has them.
unfoldable pub served_at : Register → List ℕ → ℕ → Request → Log → Outcome
served_at r matrix start q log =
    let x : Outcome = served_outcome r (row_at matrix start (folders r)) q log in
    record {
      answer = x.answer;
      matrix = with_row_at matrix start (folders r) x.matrix;
      log = x.log;
    }
