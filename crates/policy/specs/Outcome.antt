-- What a request answers and leaves (document 01, 'Where each refusal is checked'; document 02, C-12, for 11, and C-14, for 10 and 8).
use Rattle.std.specs.Prelude.{ℕ, ◌+◌, ◌-◌, ◌*◌, Bool, cond, not, ◌&&◌, ◌||◌, List, [], ◌∷◌, ◌++◌, length, leb, ltb, eqb}
use Rattle.std.proofs.lemmas.List.Edits.{sets}
use Rattle.vocabulary.specs.Answer.{Answer, Check, answer, check, judge}
use Rattle.vocabulary.specs.Those.{those, some, smallest}
use Rattle.serial.specs.Serial.{following}
use Rattle.log_bytes.specs.Record.{Record, record_bytes}
use Rattle.person_list.specs.PersonList.{person_of, bad_persons}
use Rattle.register.specs.Register.{Register, folders, register_checks}
use Rattle.policy.specs.Rules.{row_of, with_row, cell, writes, rivals, foreigners, stakes, lost, row_after}

-- What a login asks for.
pub record Request : Type 0 where
  pub login : ℕ
  pub folder : ℕ
  pub kind : ℕ

-- The log: its lent buffer, its end and the next serial.
pub record Log : Type 0 where
  pub bytes : List ℕ
  pub end : ℕ
  pub serial : ℕ

-- What a request leaves. The answer's number 0 is a grant and carries the folders that lost a write right.
pub record Outcome : Type 0 where
  pub answer : Answer
  pub matrix : List ℕ
  pub log : Log

-- ---- the refusal table

-- Rows 4 to 9, with 10 'judged after 5': matrix, request, person list, the person's row, log.
unfoldable pub request_checks : Register → (persons matrix : List ℕ) → Request → Log → List Check
request_checks r persons matrix q log =
    let too_large : List ℕ = those (λ f. ltb 3 (cell (row_of r matrix (person_of persons q.login)) f)) (folders r) in
    check (not (eqb (length matrix) (r.logins * folders r))) 4 []
    ∷ check (leb r.logins q.login) 5 []
    ∷ check (bad_persons r.logins persons) 10 []
    ∷ check (leb (folders r) q.folder) 6 []
    ∷ check (not (leb 1 q.kind && leb q.kind 4)) 7 []
    ∷ check (some too_large) 8 (smallest too_large ∷ [])
    ∷ check (ltb (length log.bytes) log.end) 9 []
    ∷ []

-- Rows 20 to 22: the wall, over the row of the person of the login that asks.
unfoldable pub wall_checks : Register → List ℕ → ℕ → ℕ → List Check
wall_checks r row o kind =
    check (some (rivals r row o)) 20 (smallest (rivals r row o) ∷ [])
    ∷ check (writes kind && some (foreigners r row o)) 21 (smallest (foreigners r row o) ∷ [])
    ∷ check (eqb kind 2 && some (stakes r row o)) 22 (smallest (stakes r row o) ∷ [])
    ∷ []

-- The decision on a row: 20, 21 or 22, or a grant.
unfoldable pub wall_answer : Register → List ℕ → ℕ → ℕ → Answer
wall_answer r row o kind = judge (wall_checks r row o kind) (answer 0 (lost r row o kind))

-- The decision: every row of the table but 30.
unfoldable pub decision : Register → (persons matrix : List ℕ) → Request → Log → Answer
decision r persons matrix q log =
    judge (register_checks r ++ request_checks r persons matrix q log)
    (wall_answer r (row_of r matrix (person_of persons q.login)) q.folder q.kind)

-- ---- what a decision leaves

-- 20, 21 or 22.
abbrev pub by_wall : Answer → Bool
by_wall a = eqb a.number 20 || eqb a.number 21 || eqb a.number 22

-- Grants, 20, 21 and 22 are logged.
abbrev pub is_logged : Answer → Bool
is_logged a = eqb a.number 0 || by_wall a

-- The record of a decision: 'requests and log keep the login'. 'After a refusal the count is 1 and the number is the folder carried.'
abbrev pub record_of : Request → ℕ → Answer → Record
record_of q serial a =
    record {
      serial = serial;
      login = q.login;
      folder = q.folder;
      kind = q.kind;
      answer = a.number;
      list = a.carried;
    }

-- The log with bytes appended: 'log bytes outside the new record stay'.
abbrev pub appended : Log → List ℕ → Log
appended log new =
    record {
      bytes = sets log.bytes log.end new;
      end = log.end + length new;
      serial = following 65536 log.serial;
    }

-- 'Numbers 1 to 19 and 30 change no byte, and return end and serial as they came.'
abbrev pub unchanged : Answer → List ℕ → Log → Outcome
unchanged a matrix log =
    record {
      answer = a;
      matrix = matrix;
      log = log;
    }

-- 'A grant changes the row': the matrix after a decision on a request of person s.
abbrev pub matrix_after : Register → (s : ℕ) → List ℕ → Request → Answer → List ℕ
matrix_after r s matrix q a =
    cond (eqb a.number 0)
    (with_row r matrix s (row_after r (row_of r matrix s) q.folder q.kind))
    matrix

-- A decision that is to be logged: '30 speaks in place of a grant, 20, 21 or 22 whose record does not fit; the decision is not told'.
unfoldable pub logged : Request → Log → Answer → List ℕ → List ℕ → Outcome
logged q log a before after =
    let new : List ℕ = record_bytes (record_of q log.serial a) in
    cond (ltb (length log.bytes - log.end) (length new))
    (unchanged (answer 30 []) before log)
    (record {
      answer = a;
      matrix = after;
      log = appended log new;
    })

-- The outcome of a request.
unfoldable pub outcome : Register → (persons matrix : List ℕ) → Request → Log → Outcome
outcome r persons matrix q log =
    let a : Answer = decision r persons matrix q log in
    cond (is_logged a) (logged q log a matrix (matrix_after r (person_of persons q.login) matrix q a)) (unchanged a matrix log)

-- What the caller is told: of a grant, how many write rights were taken back.
abbrev pub told_answer : Answer → Answer
told_answer a = cond (eqb a.number 0) (answer 0 (length a.carried ∷ [])) a

abbrev pub told : Outcome → Outcome
told x =
    record {
      answer = told_answer x.answer;
      matrix = x.matrix;
      log = x.log;
    }
