-- The writer's log passes the whole-log check, request after request (document 01, 'The log').
use Rattle.std.specs.Prelude.{ℕ, suc, ◌≤◌, ◌≡◌, List, [], ◌∷◌, take}
use Rattle.vocabulary.specs.Answer.{answer}
use Rattle.register.specs.Register.{Register}
use Rattle.audit_log.specs.Reader.{checked}
use Rattle.policy.specs.Outcome.{Request, Log}
use Rattle.policy.specs.Session.{AnswerLine, Session, serial_line, dash_line, session}

-- How many of a session's requests were logged.
abbrev pub records : List AnswerLine → ℕ
records [] = 0
records (serial_line serial number carried ∷ lines) = suc (records lines)
records (dash_line number ∷ lines) = records lines

-- An empty log in a lent buffer, from any first serial.
abbrev pub empty_log : List ℕ → ℕ → Log
empty_log buffer serial =
    record {
      bytes = buffer;
      end = 0;
      serial = serial;
    }

-- The buffer up to the log's end passes the check, with the number of records that it holds: of any register, any person list, any
-- matrix, any buffer, any first serial of 16 bits and any list of requests, with matrix, end and serial handed on.
abbrev pub WriterPasses : Type 0
WriterPasses =
    (r : Register) (persons matrix buffer : List ℕ) (serial : ℕ) → serial ≤ 65535 → (requests : List Request) →
    let s : Session = session r persons matrix (empty_log buffer serial) requests in
    checked (take s.log.end s.log.bytes) ≡ answer 0 (records s.lines ∷ [])
