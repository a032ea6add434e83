-- The log is exact, in both directions.
use Prim.Native.Nat.{ℕ, ◌+◌, ◌≤◌, ◌<◌}
use native.Mathlib.Omega.{arith}
use mathlib.Core.Path.{◌≡◌, sym, ap, ◌∙◌}
use mathlib.Core.Bool.{Bool, false}
use mathlib.Core.List.{List, ◌++◌}
use lib.ListN.{length, drop}
use lib.Seq.{slice}
use Rattle.person_list.specs.PersonList.{bad_persons}
use Rattle.log_bytes.specs.Record.{record_bytes}
use Rattle.log_records.specs.RecordAt.{Entry, Item, entry, end, refusal, entry_at}
use Rattle.log_records.specs.WellFormed.{WellFormed, Standing}
use Rattle.audit_log.specs.Reader.{step_at, place_after}
use Rattle.policy.specs.Outcome.{Log, appended}
use Rattle.log_exact.specs.Exact.{LoggedRequest, left, written, recorded, CanBeMade, walked, Yields, LogExact}
use Rattle.audit_log.proofs.Reader.{list_written, step-writes, step-written, step-yields}
use Rattle.log_exact.proofs.Appended.{slice-appended, drop-appended, logged-well-formed, logged-room, logged-left}
use Rattle.log_exact.proofs.Witness.{witness, witness-mode, witness-logins, witness-persons, witness-lent, recorded-witness}

module _ (w : LoggedRequest) where
  room : w.log.end + length (record_bytes (recorded w)) ≤ length w.log.bytes
  room = logged-room w.register w.persons w.matrix w.request w.log w.is-logged

  appends : (left w).log ≡ appended w.log (record_bytes (recorded w))
  appends = logged-left w.register w.persons w.matrix w.request w.log w.is-logged

  -- The bytes that a request appended are its record's.
  written-bytes : written w ≡ record_bytes (recorded w)
  written-bytes = ap (λ (l : Log). slice w.log.end l.end l.bytes) appends ∙ slice-appended w.log (record_bytes (recorded w)) room

  fits : WellFormed (recorded w)
  fits = logged-well-formed w.register w.persons w.matrix w.request w.log w.is-logged w.serial

  read_back : (log : List ℕ) (place : ℕ) (rest : List ℕ) → drop place log ≡ written w ++ rest → step_at log place ≡ entry (entry_at place (recorded w))
  read_back log place rest h = step-writes log place (recorded w) rest fits (h ∙ ap (λ (l : List ℕ). l ++ rest) written-bytes)

  list_back : (log : List ℕ) (place : ℕ) (rest : List ℕ) → drop place log ≡ written w ++ rest → walked log (entry_at place (recorded w)) ≡ (recorded w).list
  list_back log place rest h = list_written log place (recorded w) rest fits (h ∙ ap (λ (l : List ℕ). l ++ rest) written-bytes)

  -- In the log that it left they stand at the old end.
  drop-left : drop w.log.end (left w).log.bytes ≡ written w ++ drop (w.log.end + length (record_bytes (recorded w))) w.log.bytes
  drop-left = rw written-bytes (ap (λ (l : Log). drop w.log.end l.bytes) appends ∙ drop-appended w.log (record_bytes (recorded w)) room)

-- A record that stands at a place is the witness's.
yielded : (by_pairs : Bool) (p : ℕ) (ps : List ℕ) → p ≤ 128 → bad_persons p ps ≡ false → (log : List ℕ) (place : ℕ) (r : Standing log place) →
    r.stored.login < p →
    (w : LoggedRequest) × (w.register.by_pairs ≡ by_pairs) × (w.register.logins ≡ p) × (w.persons ≡ ps) × CanBeMade w × Yields log place w
yielded by_pairs p ps few pass log place r known =
    let w = witness r.stored by_pairs p ps few pass known r.well-formed in
    let same : recorded w ≡ r.stored = recorded-witness r.stored by_pairs p ps few pass known r.well-formed in
    let bytes : written w ≡ record_bytes r.stored = written-bytes w ∙ ap record_bytes same in
    let stands : drop place log ≡ written w ++ drop (place + length (written w)) log = r.bytes ∙ ap (λ (l : List ℕ). l ++ drop (place + length l) log) (sym bytes) in (
      w,
      witness-mode r.stored by_pairs p ps few pass known r.well-formed,
      witness-logins r.stored by_pairs p ps few pass known r.well-formed,
      witness-persons r.stored by_pairs p ps few pass known r.well-formed,
      witness-lent r.stored by_pairs p ps few pass known r.well-formed,
      record {
        fields = step-yields log place r ∙ ap (λ x. entry (entry_at place x)) (sym same);
        list = list_back w log place (drop (place + length (written w)) log) stands;
        bytes = stands;
      },
    )

-- Its login is the one that the step yields.
abbrev login_in : Item → ℕ
login_in (entry e) = e.login
login_in (end place) = 0
login_in (refusal a) = 0

login-yielded : (log : List ℕ) (place : ℕ) (e : Entry) (r : Standing log place) → step_at log place ≡ entry e → r.stored.login ≡ e.login
login-yielded log place e r h = ap login_in (sym (step-yields log place r) ∙ h)

read_left : (w : LoggedRequest) → step_at (left w).log.bytes w.log.end ≡ entry (entry_at w.log.end (recorded w))
read_left w =
    read_back w (left w).log.bytes w.log.end (drop (w.log.end + length (record_bytes (recorded w))) w.log.bytes) (drop-left w)

pub log-exact : LogExact
log-exact =
    record {
      reads = read_back;
      lists = list_back;
      reads-new = read_left;
      new-end = λ w. ap (place_after w.log.end) (read_left w) ∙ sym (ap (λ (l : Log). l.end) (appends w));
      few-logins = λ log place e bs h.
          let r = step-written log place e bs h in
          rw (← login-yielded log place e r h) (omega (arith, r.well-formed.login));
      accepts = λ by_pairs p ps few pass log place e bs h known.
          let r = step-written log place e bs h in
          yielded by_pairs p ps few pass log place r (rw (login-yielded log place e r h) known);
    }
