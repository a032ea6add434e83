-- What the person list comes to in the rules and in histories; and the partner's two logins, by computation.
use Prim.Native.Nat.{ℕ, ◌*◌, ◌≤◌, ◌<◌}
use mathlib.Core.Path.{◌≡◌, refl, sym, ap, ◌∙◌}
use mathlib.Core.Logic.{inr, ⊎_elim}
use mathlib.Core.Bool.{true, false}
use mathlib.Core.List.{List, [], ◌∷◌, ◌++◌}
use native.Mathlib.Nat.{mul-le-mul_right}
use native.Mathlib.Omega.{arith}
use lib.ListN.{length, length-take, length-drop, get_or-eq_default}
use borrow.Author.Tests.{eq-eqb, le-leb, lt-leb}
use Rattle.vocabulary.specs.Answer.{Answer, answer, judge}
use Rattle.vocabulary.specs.Those.{those}
use Rattle.vocabulary.specs.Each.{each}
use Rattle.vocabulary.proofs.Judge.{judge-append, judge-passed}
use Rattle.vocabulary.proofs.Bools.{not-both, true-or-false}
use Rattle.log_bytes.specs.Record.{record_bytes}
use Rattle.varint.specs.Groups.{groups_by, groups, groups_all}
use Rattle.person_list.specs.PersonList.{person_of, bad_persons}
use Rattle.person_list.proofs.Claims.{person-list}
use Rattle.register.specs.Register.{Register, folders, earlier, later, register_checks, Accepted}
use Rattle.register.proofs.Answers.{in_range-ranged}
use Rattle.policy.specs.Rules.{row_of, cell, can_read, can_write, rivals, foreigners, stakes, lost, row_after}
use Rattle.policy.specs.Outcome.{Request, Log, request_checks, wall_checks, wall_answer, decision, is_logged, unchanged, logged, outcome}
use Rattle.policy.specs.Wall.{reading, writing, used}
use Rattle.policy.specs.History.{Step, ask, make, State, blank, next, run}
use Rattle.policy.specs.Session.{session, request}
use Rattle.policy.specs.Demand3.{Shows}
use Rattle.policy.specs.Persons.{PersonRules, Rightless, NoMore, after, and_then, PersonHistories, OnePartner}
use Rattle.policy.proofs.Accepted.{passed, in-range}
use Rattle.policy.proofs.Outcome.{not-granted, row-passed, outcome-unlogged, outcome-cases}
use Rattle.policy.proofs.Shown.{shown_read, shown-write}
use Rattle.policy.proofs.Demand3.{kept-after}

-- ---- 10 after 5 and before 6

module _ (r : Register) (ok : Accepted r) (ps m : List ℕ) (whole : length m ≡ r.logins * folders r) (q : Request) (log : Log) where
  refused : (a : Answer) → is_logged a ≡ false → ((x : Answer) → judge (request_checks r ps m q log) x ≡ a) → outcome r ps m q log ≡ unchanged a m log
  unfolding decision
  refused a not-logged says = outcome-unlogged r ps m q log (rw decided not-logged) ∙ ap (λ x. unchanged x m log) decided
    where
      decided : decision r ps m q log ≡ a
      decided = judge-append (register_checks r) (request_checks r ps m q log) _ ∙ (judge-passed (register_checks r) _ (passed r ok) ∙ says _)

  unknown-refused : r.logins ≤ q.login → outcome r ps m q log ≡ unchanged (answer 5 []) m log
  unfolding request_checks judge
  unknown-refused h = refused (answer 5 []) refl (λ x. rw (eq-eqb _ _ whole, le-leb _ _ h))

  bad-refused : q.login < r.logins → bad_persons r.logins ps ≡ true → outcome r ps m q log ≡ unchanged (answer 10 []) m log
  unfolding request_checks judge
  bad-refused h bad = refused (answer 10 []) refl (λ x. rw (eq-eqb _ _ whole, lt-leb _ _ h, bad))

-- ---- a person's logins

decided-alike : (r : Register) (ps m : List ℕ) (login other : ℕ) → login < r.logins → other < r.logins → person_of ps login ≡ person_of ps other →
    (kind o : ℕ) (log : Log) → decision r ps m (request kind login o) log ≡ decision r ps m (request kind other o) log
unfolding decision request_checks
decided-alike r ps m login other h k same kind o log = rw (lt-leb r.logins login h, lt-leb r.logins other k, same)

pub person-rules : PersonRules
person-rules =
    record {
      own-passes = λ r. person-list.own-passes r.logins;
      own_row = λ r m login h. ap (row_of r m) (person-list.own-person r.logins login h);
      after-5 = unknown-refused;
      before-6 = bad-refused;
      alike = decided-alike;
    }

-- ---- a list that gets 10

module _ (r : Register) (ps : List ℕ) (bad : bad_persons r.logins ps ≡ true) where
  -- No step moves a right.
  rights-stay : (σ : State) (x : Step) → (next r ps σ x).rights ≡ σ.rights
  unfolding next request_checks
  rights-stay σ (make u) = refl
  rights-stay σ (ask q log) =
      ⊎_elim
      (λ d. not-both bad (row-passed r ps σ.matrix q log d 10))
      (λ n. rw (not-granted (outcome r ps σ.matrix q log).answer n.0))
      (outcome-cases r ps σ.matrix q log)

  run-rights : (σ : State) (xs : List Step) → (run r ps σ xs).rights ≡ σ.rights
  unfolding run
  run-rights σ [] = refl
  run-rights σ (x ∷ xs) = run-rights (next r ps σ x) xs ∙ rights-stay σ x

  pub bad-rightless : (xs : List Step) (s : ℕ) → Rightless (run r ps (blank r) xs).rights s
  bad-rightless xs s f = rw (run-rights (blank r) xs) (refl, refl)

-- ---- no person

-- A number that is no person's has no row, and so no right.
no_row : (r : Register) (σ : State) → Shows r σ → (s : ℕ) → r.logins ≤ s → Rightless σ.rights s
no_row r σ shown s h f =
    (sym (shown_read r σ shown s f) ∙ ap can_read empty, sym (shown-write r σ shown s f) ∙ ap can_write empty)
  where
    past : length σ.matrix ≤ s * folders r
    past = rw shown.whole (mul-le-mul_right (folders r) h)

    empty : cell (row_of r σ.matrix s) f ≡ 0
    empty = get_or-eq_default (row_of r σ.matrix s) 0 (rw (length-take, length-drop) (omega (arith, past)))

unknown-rightless : (r : Register) → Accepted r → (ps : List ℕ) (xs : List Step) (login : ℕ) → r.logins ≤ login →
    Rightless (run r ps (blank r) xs).rights (person_of ps login)
unknown-rightless r ok ps xs login h =
    ⊎_elim
    (λ bad. bad-rightless r ps bad xs (person_of ps login))
    (λ pass. no_row r (run r ps (blank r) xs) (kept-after r ok ps xs).shown (person_of ps login) (person-list.unknown r.logins ps few pass login h))
    (true-or-false (bad_persons r.logins ps))
  where
    few : r.logins ≤ 128
    few = (in_range-ranged r (in-range r ok)).logins-few

-- ---- uses

-- A history with one step more.
run-then : (r : Register) (ps : List ℕ) (σ : State) (xs : List Step) (x : Step) → run r ps σ (xs ++ (x ∷ [])) ≡ next r ps (run r ps σ xs) x
unfolding run
run-then r ps σ [] x = refl
run-then r ps σ (y ∷ xs) x = run-then r ps (next r ps σ y) xs x

module _ (r : Register) (ps : List ℕ) (xs : List Step) (login o : ℕ) where
  reading-brings : (c : ℕ) → (after r ps xs).rights.read (person_of ps login) o ≡ true → (after r ps xs).held.folder o c →
      (and_then r ps xs (make (reading login o))).held.person (person_of ps login) c
  unfolding next used
  reading-brings c stands holds = rw (run-then r ps (blank r) xs (make (reading login o))) (inr (refl, stands, holds))

  writing-brings : (c : ℕ) → (after r ps xs).rights.write (person_of ps login) o ≡ true → (after r ps xs).held.person (person_of ps login) c →
      (and_then r ps xs (make (writing login o))).held.folder o c
  unfolding next used
  writing-brings c stands holds = rw (run-then r ps (blank r) xs (make (writing login o))) (inr (refl, stands, holds))

  -- Without a right nothing moves.
  module _ (none : Rightless (after r ps xs).rights (person_of ps login)) where
    idle-reading : NoMore (and_then r ps xs (make (reading login o))).held (after r ps xs).held
    unfolding next used
    idle-reading =
        rw (run-then r ps (blank r) xs (make (reading login o)))
        ((λ s c. ⊎_elim (λ h. h) (λ new. not-both new.1 (none o).0)), (λ f c h. h))

    idle-writing : NoMore (and_then r ps xs (make (writing login o))).held (after r ps xs).held
    unfolding next used
    idle-writing =
        rw (run-then r ps (blank r) xs (make (writing login o)))
        ((λ s c h. h), (λ f c. ⊎_elim (λ h. h) (λ new. not-both new.1 (none o).1)))

pub person-histories : PersonHistories
person-histories =
    record {
      bad-list = bad-rightless;
      unknown = unknown-rightless;
      unknown-reading = λ r ok ps xs login o h. idle-reading r ps xs login o (unknown-rightless r ok ps xs login h);
      unknown-writing = λ r ok ps xs login o h. idle-writing r ps xs login o (unknown-rightless r ok ps xs login h);
      reading-feeds = reading-brings;
      writing-feeds = writing-brings;
    }

pub one-partner : OnePartner
unfolding session bad_persons outcome logged decision wall_answer wall_checks request_checks rivals foreigners stakes lost row_after register_checks earlier later judge those each record_bytes groups_by groups groups_all
one-partner =
    record {
      apart = refl;
      together = refl;
      together-too = refl;
      login-logged = refl;
      row-judged = refl;
      row-not-judged = refl;
    }
