-- Demand 3 is proved: every accepted register and every list of steps are safe.
use Prim.Native.Nat.{ℕ, ◌<◌}
use mathlib.Core.Path.{◌≡◌, refl, sym, ◌∙◌}
use mathlib.Core.Logic.{◌⊎◌, inl, inr, ⊎_elim}
use mathlib.Core.Bool.{true, false, ◌&&◌, or-true}
use mathlib.Core.List.{List, [], ◌∷◌}
use native.Mathlib.Decide.{ℕ_discrete}
use lib.Dec.{eqb, leb}
use borrow.Author.Tests.{eqb-true, not-false, leb-false}
use Rattle.vocabulary.specs.Answer.{Answer}
use Rattle.vocabulary.proofs.Judge.{Passed}
use Rattle.vocabulary.proofs.Bools.{not-both, true-or-false}
use Rattle.person_list.specs.PersonList.{person_of}
use Rattle.person_list.proofs.PersonList.{person-below}
use Rattle.register.specs.Register.{Register, folders, client_of, Accepted}
use Rattle.policy.specs.Rules.{row_of, with_row, cell, can_read, can_write, reads, writes, rival, foreign, at_stake, lost, row_after}
use Rattle.policy.specs.Outcome.{Request, Log, outcome, request_checks, wall_checks, wall_answer, by_wall, is_logged, matrix_after}
use Rattle.policy.specs.Wall.{Rights, Needful, Conflict, wall_of, joined, after_grant}
use Rattle.policy.specs.History.{Step, ask, make, State, blank, rights_after, by_person, next, run}
use Rattle.policy.specs.Demand3.{Shows, Demand3}
use Rattle.policy.proofs.Conflict.{tells, lawful, conflict-of, conflict-told}
use Rattle.policy.proofs.Wall.{Clean, Contained, Grantable, unbroken, used-kept, more-kept, grant-clean, joined-read, joined-write, asked-read, asked-write, meets, strays}
use Rattle.policy.proofs.Outcome.{fails_at, met, not-granted, Decided, row-passed, outcome-cases}
use Rattle.policy.proofs.Rules.{kind-asks, rival-found, foreign-found, stake-found, rival-read, rival-conflict, foreign-read, foreign-unsanitised, foreign-other, stake-write, stake-other, stake-unsanitised, no-rivals, no-foreigners, stake-lost, wall-granted, InTheWay, in-the-way}
use Rattle.policy.proofs.Shown.{blank-shown, shown_read, shown-write, read_known, write_known, grant-length, grant-cells}

-- What every state of a history keeps.
pub record Kept (r : Register) (σ : State) : Type 0 where
  pub shown : Shows r σ
  pub clean : Clean (wall_of r) σ.rights
  pub held : Contained (wall_of r) σ.rights σ.held

blank-kept : (r : Register) → Kept r (blank r)
blank-kept r =
    record {
      shown = blank-shown r;
      clean =
          record {
            apart = λ s f g a. not-both a refl;
            confined = λ s o f a. not-both a refl;
          };
      held =
          record {
            own-only = λ f c p. p;
            own_held = λ f c p. p;
            from-read = λ s c p. absurd p;
          };
    }

-- ---- a request that the wall answered, met in a state that is kept

module _ (r : Register) (ok : Accepted r) (ps : List ℕ) (σ : State) (kept : Kept r σ) (q : Request) (log : Log) (d : Decided r ps σ.matrix q log) where
  abbrev s : ℕ
  s = person_of ps q.login

  abbrev o : ℕ
  o = q.folder

  abbrev row : List ℕ
  row = row_of r σ.matrix s

  early : (n : ℕ) → fails_at n (request_checks r ps σ.matrix q log) ≡ false
  early = row-passed r ps σ.matrix q log d

  known : s < r.logins
  unfolding request_checks
  known = person-below r.logins ps (early 10) q.login (leb-false r.logins q.login (early 5))

  here : o < folders r
  unfolding request_checks
  here = leb-false (folders r) o (early 6)

  kind-known : (leb 1 q.kind && leb q.kind 4) ≡ true
  unfolding request_checks
  kind-known = not-false (leb 1 q.kind && leb q.kind 4) (early 7)

  pub readable : (f : ℕ) → σ.rights.read s f ≡ true → can_read (cell row f) ≡ true
  readable f e = shown_read r σ kept.shown s f ∙ e

  writable : (f : ℕ) → σ.rights.write s f ≡ true → can_write (cell row f) ≡ true
  writable f e = shown-write r σ kept.shown s f ∙ e

  -- ---- each sort of folder that stands in the way makes the refusal needful

  module _ (f : ℕ) where
    -- The asked right is joined to the rights; the folder in the way is one on which a right stands.
    abbrev k : Rights
    k = joined σ.rights s o q.kind

    stands_read : can_read (cell row f) ≡ true → k.read s f ≡ true
    stands_read e = joined-read σ.rights s o q.kind s f (sym (shown_read r σ kept.shown s f) ∙ e)

    stands-write : can_write (cell row f) ≡ true → k.write s f ≡ true
    stands-write e = joined-write σ.rights s o q.kind s f (sym (shown-write r σ kept.shown s f) ∙ e)

    rival-needful : f < folders r → rival r row o f ≡ true → Needful (wall_of r) σ.rights σ.held s o q.kind
    rival-needful h e = ⊎_elim reading-both writing-one (kind-asks q.kind kind-known)
      where
        clash : Conflict r (client_of r f) (client_of r o)
        clash = conflict-of r ok f o h here (rival-conflict r row o f e)

        stands : k.read s f ≡ true
        stands = stands_read (rival-read r row o f e)

        reading-both : reads q.kind ≡ true → Needful (wall_of r) σ.rights σ.held s o q.kind
        reading-both a =
            meets (wall_of r) k σ.held s kept.held.own_held (lawful r ok) f o stands (asked-read σ.rights s o q.kind a) clash

        writing-one : writes q.kind ≡ true → Needful (wall_of r) σ.rights σ.held s o q.kind
        writing-one a =
            strays (wall_of r) k σ.held s kept.held.own_held f o stands (asked-write σ.rights s o q.kind a)
            ((lawful r ok).real _ _ clash)
            ((tells r ok).two f o (rival-conflict r row o f e))

    foreign-needful : foreign r row o f ≡ true → writes q.kind ≡ true → Needful (wall_of r) σ.rights σ.held s o q.kind
    foreign-needful e kind =
        strays (wall_of r) k σ.held s kept.held.own_held f o
        (stands_read (foreign-read r row o f e))
        (asked-write σ.rights s o q.kind kind)
        (foreign-unsanitised r row o f e)
        (foreign-other r row o f e)

    stake-needful : at_stake r row o f ≡ true → reads q.kind ≡ true → Needful (wall_of r) σ.rights σ.held s o q.kind
    stake-needful e kind =
        strays (wall_of r) k σ.held s kept.held.own_held o f
        (asked-read σ.rights s o q.kind kind)
        (stands-write (stake-write r row o f e))
        (stake-unsanitised r row o f e)
        (λ z. stake-other r row o f e (sym z))

  -- A refusal by the wall is needful: a folder stands in the way.
  refusal-needful : by_wall (wall_answer r row o q.kind) ≡ true → Needful (wall_of r) σ.rights σ.held s o q.kind
  refusal-needful e = by-sort w.sort
    where
      w : InTheWay r row o q.kind
      w = in-the-way r row o q.kind e

      by-sort : (rival r row o w.folder ≡ true)
          ⊎ (((writes q.kind ≡ true) × (foreign r row o w.folder ≡ true)) ⊎ ((q.kind ≡ 2) × (at_stake r row o w.folder ≡ true)))
          → Needful (wall_of r) σ.rights σ.held s o q.kind
      by-sort (inl a) = rival-needful w.folder w.known a
      by-sort (inr (inl a)) = foreign-needful w.folder a.1 a.0
      by-sort (inr (inr a)) = stake-needful w.folder a.1 (rw a.0)

  -- ---- a grant

  module _ (clear : Passed (wall_checks r row o q.kind)) where
    grantable : Grantable (wall_of r) σ.rights s o q.kind (lost r row o q.kind)
    grantable =
        record {
          no_rival = λ w f a c.
              let h = read_known r σ kept.shown s f a in
              not-both (rival-found r row o f (readable f a) (conflict-told r ok f o h here c)) (no-rivals r row o q.kind clear f h);
          no-foreign = λ w f a z.
              elim (ℕ_discrete (client_of r f) (client_of r o)) [
                | yes e ↦ e
                | no e ↦
                    not-both
                    (foreign-found r row o f (readable f a) z e)
                    (no-foreigners r row o q.kind clear w f (read_known r σ kept.shown s f a))
              ];
          none_left = λ w z f a l.
              elim (ℕ_discrete (client_of r f) (client_of r o)) [
                | yes e ↦ e
                | no e ↦
                    not-both
                    (stake-lost r row o q.kind clear w f (write_known r σ kept.shown s f a) (stake-found r row o f (writable f a) e z))
                    l
              ];
        }

    granted-kept :
        Kept r
        (record {
          matrix = with_row r σ.matrix s (row_after r row o q.kind);
          rights = after_grant σ.rights s o q.kind (lost r row o q.kind);
          held = σ.held;
        })
    granted-kept =
        record {
          shown =
              record {
                whole = grant-length r σ kept.shown s o q.kind known here;
                cells = grant-cells r σ kept.shown s o q.kind known here;
              };
          clean = grant-clean (wall_of r) σ.rights s o q.kind (lost r row o q.kind) (lawful r ok) kept.clean grantable;
          held = more-kept (wall_of r) σ.rights _ σ.held (λ t f e. rw e) kept.held;
        }

  -- A request that the wall answered keeps the state.
  decided-kept : Kept r (next r ps σ (ask q log))
  unfolding next
  decided-kept = rw (d.answered, d.left) (by_number (true-or-false (eqb (met r ps σ.matrix q log).number 0)))
    where
      by_number : (eqb (met r ps σ.matrix q log).number 0 ≡ true) ⊎ (eqb (met r ps σ.matrix q log).number 0 ≡ false) →
          Kept r
          (record {
            matrix = matrix_after r s σ.matrix q (met r ps σ.matrix q log);
            rights = rights_after σ.rights s q (met r ps σ.matrix q log);
            held = σ.held;
          })
      by_number (inr e) = rw e kept
      by_number (inl e) =
          let w = wall-granted r row o q.kind (eqb-true (met r ps σ.matrix q log).number 0 e) in
          rw w.1 (granted-kept w.0)

-- ---- histories

-- Every step keeps the state.
next-kept : (r : Register) → Accepted r → (ps : List ℕ) (σ : State) → Kept r σ → (x : Step) → Kept r (next r ps σ x)
unfolding next
next-kept r ok ps σ kept (make u) =
    record {
      shown =
          record {
            whole = kept.shown.whole;
            cells = kept.shown.cells;
          };
      clean = kept.clean;
      held = used-kept (wall_of r) σ.rights σ.held (by_person ps u) kept.clean kept.held;
    }
next-kept r ok ps σ kept (ask q log) =
    ⊎_elim
    (decided-kept r ok ps σ kept q log)
    (λ n. rw (n.1, not-granted (outcome r ps σ.matrix q log).answer n.0) kept)
    (outcome-cases r ps σ.matrix q log)

run-kept : (r : Register) → Accepted r → (ps : List ℕ) (σ : State) → Kept r σ → (xs : List Step) → Kept r (run r ps σ xs)
unfolding run
run-kept r ok ps σ kept [] = kept
run-kept r ok ps σ kept (x ∷ xs) = run-kept r ok ps (next r ps σ x) (next-kept r ok ps σ kept x) xs

-- A refusal by the wall, in any state that is kept, is needful.
refused-needful : (r : Register) → Accepted r → (ps : List ℕ) (σ : State) → Kept r σ → (q : Request) (log : Log) →
    by_wall (outcome r ps σ.matrix q log).answer ≡ true → Needful (wall_of r) σ.rights σ.held (person_of ps q.login) q.folder q.kind
refused-needful r ok ps σ kept q log e =
    ⊎_elim
    (λ d. refusal-needful r ok ps σ kept q log d (rw d.answered at e))
    (λ n. not-both (by-logged (outcome r ps σ.matrix q log).answer e) n.0)
    (outcome-cases r ps σ.matrix q log)
  where
    by-logged : (a : Answer) → by_wall a ≡ true → is_logged a ≡ true
    by-logged a e = rw e (or-true (eqb a.number 0))

-- What every list of steps from a blank matrix keeps.
pub kept-after : (r : Register) → Accepted r → (ps : List ℕ) (steps : List Step) → Kept r (run r ps (blank r) steps)
kept-after r ok ps steps = run-kept r ok ps (blank r) (blank-kept r) steps

pub demand3 : Demand3
demand3 r ok ps steps =
    let σ = kept-after r ok ps in
    record {
      unbroken = unbroken (wall_of r) _ _ (σ steps).clean (σ steps).held;
      shown = (σ steps).shown;
      needful = λ before rest q log e. refused-needful r ok ps (run r ps (blank r) before) (σ before) q log;
    }
