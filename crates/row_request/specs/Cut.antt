-- Internal: a request on a row cut as the code is cut: the carrying out of a grant. No rule of document 01 stands here.
use Rattle.std.specs.Prelude.{ℕ, List}
use Rattle.vocabulary.specs.Answer.{Answer, answer}
use Rattle.vocabulary.specs.Place.{row_at, with_row_at}
use Rattle.register.specs.Register.{Register, folders}
use Rattle.policy.specs.Outcome.{Request, Log, Outcome, logged, told}
use Rattle.row.specs.Row.{lost_on}
use Rattle.row_grant.specs.Granted.{row_granted}

-- A grant, with the folders that it lists as lost.
abbrev pub grant_on : Register → List ℕ → Request → Answer
grant_on r row q = answer 0 (lost_on r row q.folder q.kind)

-- What a grant leaves.
unfoldable pub granted_outcome : Register → List ℕ → Request → Log → Outcome
granted_outcome r row q log = told (logged q log (grant_on r row q) row (row_granted r row q.folder q.kind))

-- What a grant leaves that lists these folders as lost: the matrix as it was, if its record does not fit.
unfoldable pub grant_leaves : Request → Log → (lost before after : List ℕ) → Outcome
grant_leaves q log lost before after = told (logged q log (answer 0 lost) before after)

-- What a grant leaves on the row that starts at a place of the matrix.
abbrev pub granted_at : Register → List ℕ → ℕ → Request → Log → Outcome
granted_at r matrix start q log =
    let row : List ℕ = row_at matrix start (folders r) in
    grant_leaves q log (lost_on r row q.folder q.kind) matrix (with_row_at matrix start (folders r) (row_granted r row q.folder q.kind))
