-- Laws of the outcome: what an answer of 0, 20, 21 or 22 tells, and what any other leaves.
use Prim.Native.Nat.{ℕ, ◌-◌}
use mathlib.Core.Path.{◌≡◌, refl, ap, ◌∙◌}
use mathlib.Core.Logic.{◌⊎◌, inl, inr, ⊎_elim}
use mathlib.Core.Bool.{Bool, true, false, cond, ◌||◌}
use mathlib.Core.List.{List, [], ◌∷◌, ◌++◌}
use lib.ListN.{length}
use lib.Dec.{eqb, ltb}
use borrow.Author.Tests.{eqb-true}
use Rattle.vocabulary.specs.Answer.{Answer, Check, answer, judge}
use Rattle.vocabulary.proofs.Judge.{Passed, none_says, judge-silent, passed-append}
use Rattle.vocabulary.proofs.Bools.{either, neither, true-or-false, cond_same}
use Rattle.log_bytes.specs.Record.{record_bytes}
use Rattle.person_list.specs.PersonList.{person_of}
use Rattle.register.specs.Register.{Register, register_checks}
use Rattle.policy.specs.Rules.{row_of}
use Rattle.policy.specs.Outcome.{Request, Log, request_checks, wall_answer, decision, by_wall, is_logged, record_of, unchanged, matrix_after, logged, outcome}

-- Whether a table's check of this number fails, wherever it stands.
abbrev pub fails_at : ℕ → List Check → Bool
fails_at n [] = false
fails_at n (c ∷ cs) = cond (eqb c.refusal.number n) c.fails (fails_at n cs)

pub passed-at : (n : ℕ) (cs : List Check) → Passed cs → fails_at n cs ≡ false
passed-at n [] p = refl
passed-at n (c ∷ cs) p = rw (p.0, passed-at n cs p.1) (cond_same (eqb c.refusal.number n) false)

-- An answer that is to be logged is none of a table's whose checks have other numbers.
pub logged-silent : (table : List Check) (x : Answer) →
    none_says 0 table ≡ true → none_says 20 table ≡ true → none_says 21 table ≡ true → none_says 22 table ≡ true →
    is_logged (judge table x) ≡ true → Passed table × (judge table x ≡ x)
logged-silent table x a b c d e =
    ⊎_elim
    (silent 0 a)
    (λ f.
    ⊎_elim
    (λ g. ⊎_elim (silent 20 b) (silent 21 c) (either (eqb n 20) (eqb n 21) g))
    (silent 22 d)
    (either (eqb n 20 || eqb n 21) (eqb n 22) f))
    (either (eqb n 0) (eqb n 20 || eqb n 21 || eqb n 22) e)
  where
    n : ℕ
    n = (judge table x).number

    silent : (k : ℕ) → none_says k table ≡ true → eqb n k ≡ true → Passed table × (judge table x ≡ x)
    silent k none e = judge-silent table x k none (eqb-true n k e)

-- An answer that is not logged is no grant.
pub not-granted : (a : Answer) → is_logged a ≡ false → eqb a.number 0 ≡ false
not-granted a e = (neither (eqb a.number 0) (by_wall a) e).0

module _ (r : Register) (ps m : List ℕ) (q : Request) (log : Log) where
  -- The row and the wall's answer that a request meets.
  abbrev pub met : Answer
  met = wall_answer r (row_of r m (person_of ps q.login)) q.folder q.kind

  -- A request that was answered by the wall, 0 included.
  pub record Decided : Type 0 where
    pub passed : Passed (register_checks r ++ request_checks r ps m q log)
    pub answered : (outcome r ps m q log).answer ≡ met
    pub left : (outcome r ps m q log).matrix ≡ matrix_after r (person_of ps q.login) m q met

  -- Then each row of the table from 4 on was passed, whatever their order.
  pub row-passed : Decided → (n : ℕ) → fails_at n (request_checks r ps m q log) ≡ false
  row-passed d n = passed-at n (request_checks r ps m q log) (passed-append (register_checks r) (request_checks r ps m q log) d.passed).1

  decision-logged : is_logged (decision r ps m q log) ≡ true → Passed (register_checks r ++ request_checks r ps m q log) × (decision r ps m q log ≡ met)
  unfolding decision register_checks request_checks
  decision-logged e = logged-silent (register_checks r ++ request_checks r ps m q log) met refl refl refl refl e

  -- Whether the record lacks room.
  unfoldable pub too_long : Bool
  too_long = ltb (length log.bytes - log.end) (length (record_bytes (record_of q log.serial (decision r ps m q log))))

  pub outcome-unlogged : is_logged (decision r ps m q log) ≡ false → outcome r ps m q log ≡ unchanged (decision r ps m q log) m log
  unfolding outcome
  outcome-unlogged f = rw f

  pub outcome-long : is_logged (decision r ps m q log) ≡ true → too_long ≡ true → outcome r ps m q log ≡ unchanged (answer 30 []) m log
  unfolding outcome logged too_long
  outcome-long f g = rw (f, g)

  outcome-kept : is_logged (decision r ps m q log) ≡ true → too_long ≡ false →
      ((outcome r ps m q log).answer ≡ decision r ps m q log) × ((outcome r ps m q log).matrix ≡ matrix_after r (person_of ps q.login) m q (decision r ps m q log))
  unfolding outcome logged too_long
  outcome-kept f g = (rw (f, g), rw (f, g))

  -- What a request leaves: it was answered by the wall, or its answer is another and the matrix stays.
  pub outcome-cases : Decided ⊎ ((is_logged (outcome r ps m q log).answer ≡ false) × ((outcome r ps m q log).matrix ≡ m))
  outcome-cases = by-log (true-or-false (is_logged (decision r ps m q log))) (true-or-false too_long)
    where
      by-log : (is_logged (decision r ps m q log) ≡ true) ⊎ (is_logged (decision r ps m q log) ≡ false) → (too_long ≡ true) ⊎ (too_long ≡ false) →
          Decided ⊎ ((is_logged (outcome r ps m q log).answer ≡ false) × ((outcome r ps m q log).matrix ≡ m))
      by-log (inr f) g = inr (rw (outcome-unlogged f) f, rw (outcome-unlogged f))
      by-log (inl f) (inl g) = inr (rw (outcome-long f g), rw (outcome-long f g))
      by-log (inl f) (inr g) =
          let d = decision-logged f in
          let k = outcome-kept f g in
          inl
          (record {
            passed = d.0;
            answered = k.0 ∙ d.1;
            left = k.1 ∙ ap (matrix_after r (person_of ps q.login) m q) d.1;
          })
