-- What a request's line says are numbers of 16 bits.
use Prim.Native.Nat.{ℕ, suc, ◌≤◌}
use native.Mathlib.Omega.{arith}
use mathlib.Core.Path.{◌≡◌, refl}
use mathlib.Core.Logic.{◌⊎◌, inl, inr}
use mathlib.Core.Bool.{Bool, true, false, cond, ◌&&◌}
use mathlib.Core.List.{List, [], ◌∷◌, ◌++◌}
use lib.Dec.{leb}
use borrow.Author.Tests.{leb-true}
use Rattle.vocabulary.specs.Answer.{Answer, Check, judge}
use Rattle.vocabulary.proofs.Bools.{both, true-or-false}
use Rattle.person_list.specs.PersonList.{person_of}
use Rattle.register.specs.Register.{Register, register_checks}
use Rattle.log_lists.specs.Rising.{Rising}
use Rattle.policy.specs.Rules.{row_of}
use Rattle.policy.specs.Outcome.{Request, Log, is_logged, request_checks, wall_checks, wall_answer, decision, logged, outcome}
use Rattle.policy.proofs.Outcome.{too_long, outcome-unlogged, outcome-long}
use Rattle.text_lines.proofs.Spaced.{Small}

pub rising-small : (folder least : ℕ) (l : List ℕ) → Rising folder least l → Small l
rising-small folder least [] r = tt
rising-small folder least (n ∷ ns) r = (omega (arith, r.1), rising-small folder (suc n) ns r.3)

-- ---- the number of a request's answer

-- Whether no check of a table answers with a larger number.
none_above : ℕ → List Check → Bool
none_above n [] = true
none_above n (c ∷ cs) = leb c.refusal.number n && none_above n cs

judge-most : (n : ℕ) (cs : List Check) (x : Answer) → none_above n cs ≡ true → x.number ≤ n → (judge cs x).number ≤ n
unfolding judge none_above
judge-most n [] x e h = h
judge-most n (c ∷ cs) x e h =
    let parts = both (leb c.refusal.number n) (none_above n cs) e in
    by c.fails (leb-true c.refusal.number n parts.0) (judge-most n cs x parts.1 h)
  where
    by : (b : Bool) → c.refusal.number ≤ n → (judge cs x).number ≤ n → (cond b c.refusal (judge cs x)).number ≤ n
    by true p q = p
    by false p q = q

module _ (r : Register) (ps m : List ℕ) (q : Request) (log : Log) where
  decision-most : (decision r ps m q log).number ≤ 30
  unfolding decision register_checks request_checks wall_answer wall_checks none_above
  decision-most =
      judge-most 30 (register_checks r ++ request_checks r ps m q log) (wall_answer r (row_of r m (person_of ps q.login)) q.folder q.kind) refl
      (judge-most 30 (wall_checks r (row_of r m (person_of ps q.login)) q.folder q.kind) _ refl (omega arith))

  pub outcome-most : (outcome r ps m q log).answer.number ≤ 30
  unfolding outcome logged too_long
  outcome-most = by (true-or-false (is_logged (decision r ps m q log))) (true-or-false (too_long r ps m q log))
    where
      by : (is_logged (decision r ps m q log) ≡ true) ⊎ (is_logged (decision r ps m q log) ≡ false) → (too_long r ps m q log ≡ true) ⊎ (too_long r ps m q log ≡ false)
          → (outcome r ps m q log).answer.number ≤ 30
      by (inr f) g = rw (outcome-unlogged r ps m q log f) decision-most
      by (inl f) (inl g) = rw (outcome-long r ps m q log f g) (omega arith)
      by (inl f) (inr g) = rw (f, g) decision-most
