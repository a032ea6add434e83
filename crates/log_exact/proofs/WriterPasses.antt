-- The writer's log passes the whole-log check: it is a chain of well-formed records, each with the serial after the one before.
use Prim.Native.Nat.{ℕ, suc, ◌+◌, ◌≤◌}
use native.Mathlib.Omega.{arith}
use native.Mathlib.Nat.{add-zero, zero-add}
use mathlib.Core.Path.{◌≡◌, refl, sym, ap, ◌∙◌}
use mathlib.Core.Logic.{◌⊎◌, inl, inr}
use mathlib.Core.Bool.{true, false, or-true, false≢true}
use mathlib.Core.List.{List, [], ◌∷◌, ◌++◌, append_assoc, append-nil}
use lib.ListN.{length, take, drop, length-drop}
use Rattle.vocabulary.specs.Answer.{answer}
use Rattle.vocabulary.proofs.Bools.{true-or-false, eqb-self}
use Rattle.serial.specs.Serial.{following}
use Rattle.register.specs.Register.{Register}
use Rattle.log_bytes.specs.Record.{Record, record_bytes}
use Rattle.log_records.specs.WellFormed.{WellFormed, Standing}
use Rattle.audit_log.specs.Reader.{in_turn, checked_from, checked}
use Rattle.policy.specs.Outcome.{Request, Log, Outcome, decision, is_logged, record_of, logged, outcome}
use Rattle.policy.specs.Session.{Session, session}
use Rattle.log_exact.specs.WriterPasses.{records, empty_log, WriterPasses}
use Rattle.log_fields.proofs.Accepted.{drop-on}
use Rattle.audit_log.proofs.Reader.{step-onward}
use Rattle.audit_log.proofs.WholeLog.{step_end, checked-end, checked-record}
use Rattle.policy.proofs.Outcome.{too_long, outcome-unlogged, outcome-long}
use Rattle.log_exact.proofs.Appended.{take-appended, logged-well-formed, logged-room, logged-left}

-- Records one after the other.
bytes_of : List Record → List ℕ
bytes_of [] = []
bytes_of (e ∷ es) = record_bytes e ++ bytes_of es

-- Well-formed records with serials from one on.
abbrev Chained : ℕ → List Record → Type 0
Chained serial [] = Unit {0}
Chained serial (e ∷ es) = (e.serial ≡ serial) × WellFormed e × Chained (following 65536 serial) es

-- ---- a chain passes the check

checked-chain : (log : List ℕ) (es : List Record) (fuel place seen last serial : ℕ) → length log ≤ place + fuel → place ≤ length log →
    drop place log ≡ bytes_of es → Chained serial es → in_turn seen last serial ≡ true →
    checked_from fuel log place seen last ≡ answer 0 ((seen + length es) ∷ [])
unfolding bytes_of
checked-chain log [] fuel place seen last serial enough within h c t =
    let end : place ≡ length log = omega (arith, simp length-drop at (ap length h)) in
    rw add-zero (checked-end log place seen last fuel place (step_end log place end))
checked-chain log (e ∷ es) fuel place seen last serial enough within h c t =
    let after = drop-on log place (record_bytes e) (bytes_of es) h in
    let r : Standing log place =
    record {
      stored = e;
      well-formed = c.1;
      bytes = h ∙ ap (λ (l : List ℕ). record_bytes e ++ l) (sym after);
    } in
    let on = checked-record log place seen last r fuel enough (rw c.0 t) in
    let many : seen + 1 + length es ≡ seen + suc (length es) = omega arith in
    on.2
    ∙ rw (← many)
    (checked-chain log es on.0 (place + length (record_bytes e)) (seen + 1) e.serial (following 65536 serial) on.1
    (step-onward log place r).1 after c.2 (rw (c.0, eqb-self (following 65536 serial), or-true)))

-- ---- a session writes a chain

-- A request that was not logged leaves the log.
pub unlogged-left : (r : Register) (ps m : List ℕ) (q : Request) (log : Log) → is_logged (outcome r ps m q log).answer ≡ false → (outcome r ps m q log).log ≡ log
unfolding outcome logged too_long
unlogged-left r ps m q log l = go (true-or-false (is_logged (decision r ps m q log))) (true-or-false (too_long r ps m q log))
  where
    go : (is_logged (decision r ps m q log) ≡ true) ⊎ (is_logged (decision r ps m q log) ≡ false) → (too_long r ps m q log ≡ true) ⊎ (too_long r ps m q log ≡ false) →
        (outcome r ps m q log).log ≡ log
    go (inr f) g = ap (λ x. x.log) (outcome-unlogged r ps m q log f)
    go (inl f) (inl g) = ap (λ x. x.log) (outcome-long r ps m q log f g)
    go (inl f) (inr g) = absurd (false≢true (sym l ∙ rw (f, g) f))

-- What a session has appended to a log.
record Grown (log : Log) (s : Session) : Type 0 where
  entries : List Record
  content : take s.log.end s.log.bytes ≡ take log.end log.bytes ++ bytes_of entries
  chained : Chained log.serial entries
  many : records s.lines ≡ length entries

session-grows : (r : Register) (ps m : List ℕ) (log : Log) (qs : List Request) → log.serial ≤ 65535 → Grown log (session r ps m log qs)
unfolding session bytes_of
session-grows r ps m log [] h =
    record {
      entries = [];
      content = sym (append-nil (take log.end log.bytes));
      chained = tt;
      many = refl;
    }
session-grows r ps m log (q ∷ qs) h =
    go (true-or-false (is_logged (outcome r ps m q log).answer)) (session-grows r ps (outcome r ps m q log).matrix (outcome r ps m q log).log qs)
  where
    x : Outcome
    x = outcome r ps m q log

    more : Session
    more = session r ps x.matrix x.log qs

    new : Record
    new = record_of q log.serial x.answer

    longer : is_logged x.answer ≡ true → x.log.serial ≡ following 65536 log.serial → Grown x.log more → Grown log (session r ps m log (q ∷ qs))
    longer l serial g =
        let here = ap (λ (k : Log). take k.end k.bytes) (logged-left r ps m q log l) ∙ take-appended log (record_bytes new) (logged-room r ps m q log l) in
        record {
          entries = new ∷ g.entries;
          content = g.content ∙ rw here (append_assoc (take log.end log.bytes) (record_bytes new) (bytes_of g.entries));
          chained = (refl, logged-well-formed r ps m q log l h, rw serial at g.chained);
          many = rw l (ap suc g.many);
        }

    same : is_logged x.answer ≡ false → x.log ≡ log → Grown x.log more → Grown log (session r ps m log (q ∷ qs))
    same l left g =
        record {
          entries = g.entries;
          content = g.content ∙ rw left;
          chained = rw left at g.chained;
          many = rw l g.many;
        }

    go : (is_logged x.answer ≡ true) ⊎ (is_logged x.answer ≡ false) → (x.log.serial ≤ 65535 → Grown x.log more) → Grown log (session r ps m log (q ∷ qs))
    go (inl l) rest =
        let serial : x.log.serial ≡ following 65536 log.serial = ap (λ (k : Log). k.serial) (logged-left r ps m q log l) in
        longer l serial (rest (rw serial (omega arith)))
    go (inr l) rest = let left = unlogged-left r ps m q log l in same l left (rest (rw left h))

pub writer-passes : WriterPasses
unfolding checked
writer-passes r ps m buffer serial h qs =
    let log = empty_log buffer serial in
    let s = session r ps m log qs in
    let g = session-grows r ps m log qs h in
    rw g.many
    (checked-chain (take s.log.end s.log.bytes) g.entries (length (take s.log.end s.log.bytes)) 0 0 0 serial
    (omega arith) (omega arith) g.content g.chained refl
    ∙ rw zero-add)
