-- Neither mode looks at what the other goes by; and the two readers, by computation.
use Prim.Native.Nat.{ℕ}
use mathlib.Core.Path.{◌≡◌, refl, sym, ap, ◌∙◌}
use mathlib.Core.Bool.{Bool, true, false}
use mathlib.Core.List.{List}
use lib.ListN.{length}
use Rattle.vocabulary.specs.Answer.{judge}
use Rattle.vocabulary.specs.Those.{those}
use Rattle.vocabulary.specs.Each.{each}
use Rattle.vocabulary.proofs.Judge.{judge-append, judge-passed}
use Rattle.log_bytes.specs.Record.{record_bytes}
use Rattle.varint.specs.Groups.{groups_by, groups, groups_all}
use Rattle.person_list.specs.PersonList.{person_of, bad_persons, own_numbers}
use Rattle.register.specs.Register.{Register, register_by, register_of, earlier, later, bad_pairs, register_checks, register_answer, Accepted}
use Rattle.policy.specs.Conflict.{paired}
use Rattle.policy.specs.Rules.{rivals, foreigners, stakes, lost, row_after, row_of}
use Rattle.policy.specs.Outcome.{Request, Log, request_checks, wall_checks, wall_answer, decision, outcome, logged}
use Rattle.policy.specs.Session.{session}
use Rattle.policy.specs.Modes.{with_classes, Unread, TwoReaders}
use Rattle.policy.proofs.Accepted.{passed}

-- The same register in a given mode.
abbrev in_mode : Register → Bool → Register
in_mode r mode = register_by r.logins r.classes r.clients mode r.firsts r.seconds

-- ---- by classes

classes-alone : (p : ℕ) (cs ds fs ss ps m : List ℕ) (q : Request) (log : Log) → outcome (register_by p cs ds false fs ss) ps m q log ≡ outcome (register_of p cs ds) ps m q log
unfolding outcome decision register_checks later earlier request_checks wall_answer wall_checks rivals foreigners stakes lost row_after
classes-alone p cs ds fs ss ps m q log = refl

-- ---- by pairs

module _ (p : ℕ) (cs cs' ds fs ss : List ℕ) (same : length cs ≡ length cs')
    (ok : Accepted (register_by p cs ds true fs ss)) (ok' : Accepted (register_by p cs' ds true fs ss)) (ps m : List ℕ) (q : Request) (log : Log) where
  abbrev r : Register
  r = register_by p cs ds true fs ss

  abbrev r' : Register
  r' = register_by p cs' ds true fs ss

  late-same : judge (request_checks r ps m q log) (wall_answer r (row_of r m (person_of ps q.login)) q.folder q.kind)
      ≡ judge (request_checks r' ps m q log) (wall_answer r' (row_of r' m (person_of ps q.login)) q.folder q.kind)
  unfolding request_checks wall_answer wall_checks rivals paired foreigners stakes lost
  late-same = rw same

  decision-same : decision r ps m q log ≡ decision r' ps m q log
  unfolding decision
  decision-same =
      rw (judge-append (register_checks r), judge-append (register_checks r'), judge-passed (register_checks r) _ (passed r ok), judge-passed (register_checks r') _ (passed r' ok'))
      late-same

  outcome-same : outcome r ps m q log ≡ outcome r' ps m q log
  unfolding outcome row_after
  outcome-same = rw (decision-same, same)

pub unread : Unread
unread =
    record {
      pairs = λ r mode ps m q log.
          ap (λ (b : Bool). outcome (in_mode r b) ps m q log) mode ∙ classes-alone r.logins r.classes r.clients r.firsts r.seconds ps m q log;
      classes = λ r classes mode same ok ok' ps m q log.
          ap (λ (b : Bool). outcome (in_mode r b) ps m q log) mode
          ∙ (outcome-same r.logins r.classes classes r.clients r.firsts r.seconds (sym same) (in_pairs r mode ok) (others r classes mode ok') ps m q log
          ∙ sym (ap (λ (b : Bool). outcome (register_by r.logins classes r.clients b r.firsts r.seconds) ps m q log) mode));
    }
  where
    in_pairs : (r : Register) → r.by_pairs ≡ true → Accepted r → Accepted (in_mode r true)
    in_pairs r mode ok = ap (λ (b : Bool). (register_answer (in_mode r b)).number) (sym mode) ∙ ok

    others : (r : Register) (classes : List ℕ) → r.by_pairs ≡ true → Accepted (with_classes r classes) →
        Accepted (register_by r.logins classes r.clients true r.firsts r.seconds)
    others r classes mode ok = ap (λ (b : Bool). (register_answer (register_by r.logins classes r.clients b r.firsts r.seconds)).number) (sym mode) ∙ ok

pub two-readers : TwoReaders
unfolding session own_numbers bad_persons outcome logged decision wall_answer wall_checks request_checks rivals paired foreigners stakes lost row_after register_checks bad_pairs earlier later judge those each record_bytes groups_by groups groups_all
two-readers = refl
