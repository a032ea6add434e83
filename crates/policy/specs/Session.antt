-- The table L0 to L11 with its 'end' row (document 01, 'The desk program'), as a claim about the definitions, with each login its own
-- person.
use Rattle.std.specs.Prelude.{ℕ, ◌≡◌, cond, List, [], ◌∷◌, replicate, take, drop}
use Rattle.person_list.specs.PersonList.{own_numbers}
use Rattle.register.specs.Register.{Register, register_of}
use Rattle.policy.specs.Outcome.{Request, Log, Outcome, outcome, is_logged}

-- A printed line: serial, answer and its folder list, or `-` and the number of a request that was not logged.
pub data AnswerLine : Type 0 where
  serial_line : ℕ → ℕ → List ℕ → AnswerLine
  dash_line : ℕ → AnswerLine

abbrev pub answer_line : Log → Outcome → AnswerLine
answer_line log x =
    cond (is_logged x.answer) (serial_line log.serial x.answer.number x.answer.carried) (dash_line x.answer.number)

-- The lines of a list of requests, and the log that they leave: matrix and log are handed on from request to request.
pub record Session : Type 0 where
  pub lines : List AnswerLine
  pub log : Log

unfoldable pub session : Register → (persons matrix : List ℕ) → Log → List Request → Session
session r persons matrix log [] =
    record {
      lines = [];
      log = log;
    }
session r persons matrix log (q ∷ qs) =
    let x : Outcome = outcome r persons matrix q log in
    let more : Session = session r persons x.matrix x.log qs in
    record {
      lines = answer_line log x ∷ more.lines;
      log = more.log;
    }

abbrev pub request : ℕ → ℕ → ℕ → Request
request kind login folder =
    record {
      login = login;
      folder = folder;
      kind = kind;
    }

-- `P 2`, `F 0 0`, `F 1 1`, `F 1 2`, `F 2 3`, `F 1 1`
abbrev pub table_register : Register
table_register = register_of 2 (0 ∷ 1 ∷ 1 ∷ 2 ∷ 1 ∷ []) (0 ∷ 1 ∷ 2 ∷ 3 ∷ 1 ∷ [])

abbrev pub table_requests : List Request
table_requests =
    request 3 0 1
    ∷ request 3 0 3
    ∷ request 2 0 1
    ∷ request 1 0 1
    ∷ request 1 0 2
    ∷ request 1 0 0
    ∷ request 3 0 4
    ∷ request 1 0 3
    ∷ request 3 0 4
    ∷ request 4 1 2
    ∷ request 3 1 0
    ∷ request 1 1 4
    ∷ request 1 2 0
    ∷ []

abbrev pub table_lines : List AnswerLine
table_lines =
    serial_line 0 0 []
    ∷ serial_line 1 0 []
    ∷ serial_line 2 22 (3 ∷ [])
    ∷ serial_line 3 0 (3 ∷ [])
    ∷ serial_line 4 20 (1 ∷ [])
    ∷ serial_line 5 0 []
    ∷ serial_line 6 0 []
    ∷ serial_line 7 0 (1 ∷ 4 ∷ [])
    ∷ serial_line 8 21 (3 ∷ [])
    ∷ serial_line 9 0 []
    ∷ serial_line 10 21 (2 ∷ [])
    ∷ serial_line 11 20 (2 ∷ [])
    ∷ dash_line 5
    ∷ []

-- The log of a new desk: 65,536 bytes, the first serial 0.
abbrev pub new_log : Log
new_log =
    record {
      bytes = replicate 65536 0;
      end = 0;
      serial = 0;
    }

abbrev pub table_session : Session
table_session = session table_register (own_numbers 2) (replicate 10 0) new_log table_requests

-- The table, and L3's record: three records of 6, 6 and 7 bytes stand before it.
pub record Table : Type 0 where
  pub lines : table_session.lines ≡ table_lines
  pub L3 : take 7 (drop 19 table_session.log.bytes) ≡ 3 ∷ 0 ∷ 1 ∷ 1 ∷ 0 ∷ 1 ∷ 3 ∷ []
