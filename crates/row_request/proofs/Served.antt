-- What each decision leaves.
use Prim.Native.Nat.{ℕ}
use mathlib.Core.Path.{◌≡◌, refl, sym, ap, ◌∙◌}
use mathlib.Core.Logic.{◌⊎◌, inl, inr}
use mathlib.Core.Bool.{true, false}
use mathlib.Core.List.{List, []}
use lib.ListN.{length}
use lib.Dec.{eqb, ltb}
use borrow.Author.Tests.{leb-false, lt-ltb, not-false}
use Rattle.vocabulary.specs.Answer.{Answer, answer}
use Rattle.vocabulary.proofs.Bools.{true-or-false, not-both, neither}
use Rattle.vocabulary.proofs.Judge.{judge-silent}
use Rattle.vocabulary.proofs.Those.{some-none}
use Rattle.cells.specs.Above.{aboves}
use Rattle.register.specs.Register.{Register, register_of}
use Rattle.std.specs.Prelude.{Result, Ok}
use Rattle.response.specs.declared.Refusal.{Refusal}
use Rattle.response.specs.Response.{response_answer, wall_refusal_answer}
use Rattle.policy.specs.Rules.{lost, row_after}
use Rattle.policy.specs.Outcome.{Request, Log, wall_checks, wall_answer, by_wall, is_logged, unchanged}
use Rattle.row_labels.specs.Fitting.{lists_fit, fitting}
use Rattle.row.specs.Row.{fit_checks, row_answer, ruled, lost_on}
use Rattle.row.proofs.Fitting.{ruled-number}
use Rattle.row_grant.specs.Granted.{row_granted}
use Rattle.response.specs.declared.WallRefusal.{WallRefusal}
use Rattle.response.specs.declared.WallRefusal.TheVariants.{Rival, Foreign, AtStake}
use Rattle.log_writer.specs.Logged.{logged_outcome}
use Rattle.row_decision.specs.Decision.{row_checks, served_answer}
use Rattle.row_request.specs.Served.{served_outcome}
use Rattle.row_request.specs.Cut.{granted_outcome}

-- A decision that is no grant is the whole answer.
ruled-other : (b a : Answer) → eqb b.number 0 ≡ false → b ≡ ruled a → a ≡ b
ruled-other b a n e = by (true-or-false (eqb a.number 0))
  where
    by : (eqb a.number 0 ≡ true) ⊎ (eqb a.number 0 ≡ false) → a ≡ b
    by (inl g) = not-both (rw (e, g)) n
    by (inr g) = sym (rw g at e)

-- A grant on a row carries the folders that lose a write right.
row-granted : (r : Register) (row : List ℕ) (o kind : ℕ) → (row_answer r row o kind).number ≡ 0 → row_answer r row o kind ≡ answer 0 (lost_on r row o kind)
unfolding row_answer fit_checks wall_answer wall_checks fitting lost_on
row-granted r row o kind n =
    let a = judge-silent (fit_checks r row o) (wall_answer r row o kind) 0 refl n in
    let b = judge-silent (wall_checks r row o kind) (answer 0 (lost r row o kind)) 0 refl (rw a.1 at n) in
    let f : lists_fit r row ≡ true = not-false (lists_fit r row) a.0.0 in
    let k : ltb o (length row) ≡ true = lt-ltb o (length row) (leb-false (length row) o a.0.1.1.0) in
    a.1 ∙ (b.1 ∙ rw (f, k))

module _ (r : Register) (row : List ℕ) (q : Request) (log : Log) where
  abbrev said : Answer
  said = served_answer r row q (length log.bytes) log.end

  said-granted : said.number ≡ 0 → said ≡ answer 0 (lost_on r row q.folder q.kind)
  unfolding served_answer row_checks
  said-granted n =
      let e = (judge-silent (row_checks row (length log.bytes) log.end) (row_answer r row q.folder q.kind) 0 refl n).1 in
      e ∙ row-granted r row q.folder q.kind (rw e at n)

  -- A grant is decided on a row that it fits, with cells of 0 to 3.
  pub granted-sound : (n : ℕ) → response_answer (Ok n) ≡ ruled said → (fitting (register_of 0 r.classes r.clients) row q.folder ≡ true) × (aboves row ≡ [])
  unfolding served_answer row_checks row_answer fit_checks fitting lists_fit
  granted-sound count d =
      let n = sym (ap (λ (a : Answer). a.number) d ∙ ruled-number said) in
      let a = judge-silent (row_checks row (length log.bytes) log.end) (row_answer r row q.folder q.kind) 0 refl n in
      let b = judge-silent (fit_checks r row q.folder) (wall_answer r row q.folder q.kind) 0 refl (rw a.1 at n) in
      let f : lists_fit r row ≡ true = not-false (lists_fit r row) b.0.0 in
      let k : ltb q.folder (length row) ≡ true = lt-ltb q.folder (length row) (leb-false (length row) q.folder b.0.1.1.0) in
      (rw (f, k), some-none (aboves row) a.0.1.0)

  -- The carrying out of a grant looks at no conflict.
  pub served-granted : (n : ℕ) → response_answer (Ok n) ≡ ruled said → granted_outcome (register_of 0 r.classes r.clients) row q log ≡ served_outcome r row q log
  unfolding served_outcome granted_outcome lost_on lost row_granted row_after fitting lists_fit
  served-granted n d = rw (said-granted (sym (ap (λ (a : Answer). a.number) d ∙ ruled-number said)))

  pub served-barred : (w : WallRefusal) → wall_refusal_answer w ≡ ruled said →
      logged_outcome row q log (wall_refusal_answer w) ≡ served_outcome r row q log
  unfolding served_outcome logged_outcome
  served-barred (Rival f) d = rw (ruled-other (wall_refusal_answer (Rival f)) said refl d)
  served-barred (Foreign f) d = rw (ruled-other (wall_refusal_answer (Foreign f)) said refl d)
  served-barred (AtStake f) d = rw (ruled-other (wall_refusal_answer (AtStake f)) said refl d)

  pub served-refused : (p : Result ℕ Refusal) → is_logged (response_answer p) ≡ false → response_answer p ≡ ruled said →
      unchanged (response_answer p) row log ≡ served_outcome r row q log
  unfolding served_outcome
  served-refused p u d =
      let n : eqb (response_answer p).number 0 ≡ false = (neither (eqb (response_answer p).number 0) (by_wall (response_answer p)) u).0 in
      rw (ruled-other (response_answer p) said n d, u, n)
