-- The log is exact: the reader accepts the records that the writer can write, no other bytes, and yields the same fields. The records 'are meant over
-- all registers and rows, blank start or not' (document 01, 'The log'), registers by classes and by pairs (document 02, C-12), and over every person
-- list (C-14).
use Rattle.std.specs.Prelude.{ℕ, ◌+◌, ◌≤◌, ◌<◌, ◌≡◌, Bool, true, false, List, ◌++◌, length, drop}
use Rattle.std.proofs.Math.Seq.{slice}
use Rattle.varint.specs.Bytes.{Bytes}
use Rattle.person_list.specs.PersonList.{person_of, bad_persons}
use Rattle.register.specs.Register.{Register, Accepted, class_of, client_of, first_at, second_at}
use Rattle.log_bytes.specs.Record.{Record}
use Rattle.log_records.specs.RecordAt.{Entry, entry, entry_at}
use Rattle.audit_log.specs.Reader.{list_from, step_at, place_after}
use Rattle.policy.specs.Outcome.{Request, Log, Outcome, is_logged, record_of, outcome}

-- A request that the writer has logged: to an accepted register, in either mode, with any person list, on any matrix and log, with a serial of 16
-- bits.
pub record LoggedRequest : Type 0 where
  pub register : Register
  pub persons : List ℕ
  pub matrix : List ℕ
  pub request : Request
  pub log : Log
  pub accepted : Accepted register
  pub serial : log.serial ≤ 65535
  pub is-logged : is_logged (outcome register persons matrix request log).answer ≡ true

-- What it left.
abbrev pub left : LoggedRequest → Outcome
left w = outcome w.register w.persons w.matrix w.request w.log

-- The very bytes that it appended: those from the log's old end to its new end.
abbrev pub written : LoggedRequest → List ℕ
written w = slice w.log.end (left w).log.end (left w).log.bytes

-- What was recorded: the request, with its login, its serial and its answer.
abbrev pub recorded : LoggedRequest → Record
recorded w = record_of w.request w.log.serial (left w).answer

-- A request that can be made: its register's labels, the clients of its pairs and its persons have 16 bits, its matrix and its log hold bytes.
pub record CanBeMade (w : LoggedRequest) : Type 0 where
  pub classes : (f : ℕ) → class_of w.register f ≤ 65535
  pub clients : (f : ℕ) → client_of w.register f ≤ 65535
  pub firsts : (i : ℕ) → first_at w.register i ≤ 65535
  pub seconds : (i : ℕ) → second_at w.register i ≤ 65535
  pub persons : (login : ℕ) → person_of w.persons login ≤ 65535
  pub matrix : Bytes w.matrix
  pub log : Bytes w.log.bytes

-- The list that the reader of a record walks: as many folders as the record counts, from the place that it gives.
abbrev pub walked : List ℕ → Entry → List ℕ
walked log e = list_from e.count log e.list

-- What the reader yields at a place is what a request wrote: its fields, the place of its list and the place after it, and its list; and
-- its bytes stand there.
pub record Yields (log : List ℕ) (place : ℕ) (w : LoggedRequest) : Type 0 where
  pub fields : step_at log place ≡ entry (entry_at place (recorded w))
  pub list : walked log (entry_at place (recorded w)) ≡ (recorded w).list
  pub bytes : drop place log ≡ written w ++ drop (place + length (written w)) log

pub record LogExact : Type 0 where
  -- Where bytes stand that a request wrote, a step yields its record, whatever stands before and after them.
  pub reads : (w : LoggedRequest) (log : List ℕ) (place : ℕ) (rest : List ℕ) → drop place log ≡ written w ++ rest →
      step_at log place ≡ entry (entry_at place (recorded w))
  -- The walk of its list yields what it lists.
  pub lists : (w : LoggedRequest) (log : List ℕ) (place : ℕ) (rest : List ℕ) → drop place log ≡ written w ++ rest →
      walked log (entry_at place (recorded w)) ≡ (recorded w).list
  -- So a step on the log that a request left, at the log's old end, yields its record.
  pub reads-new : (w : LoggedRequest) → step_at (left w).log.bytes w.log.end ≡ entry (entry_at w.log.end (recorded w))
  -- The place after it is the log's new end.
  pub new-end : (w : LoggedRequest) → place_after w.log.end (step_at (left w).log.bytes w.log.end) ≡ (left w).log.end
  -- Whatever a step accepts in a list of bytes has a login below 128; and some request wrote it that can be made: by classes and also by pairs, in a
  -- house of any number of logins up to 128 that has this one, and with every person list that 10 lets pass there.
  pub few-logins : (log : List ℕ) (place : ℕ) (e : Entry) → Bytes log → step_at log place ≡ entry e → e.login < 128
  pub accepts : (by_pairs : Bool) (p : ℕ) (persons : List ℕ) → p ≤ 128 → bad_persons p persons ≡ false → (log : List ℕ) (place : ℕ) (e : Entry) → Bytes log →
      step_at log place ≡ entry e → e.login < p →
      (w : LoggedRequest) × (w.register.by_pairs ≡ by_pairs) × (w.register.logins ≡ p) × (w.persons ≡ persons) × CanBeMade w × Yields log place w
