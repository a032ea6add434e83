-- What an accepted register gives: the two zeros stand together, one client has one class; in pair mode each pair names two clients.
use Prim.Native.Nat.{ℕ, ◌<◌}
use mathlib.Core.Path.{◌≡◌, refl, sym, ap}
use mathlib.Core.Bool.{true, false, not, ◌||◌}
use mathlib.Core.List.{[]}
use native.Mathlib.Omega.{arith}
use native.Mathlib.Decide.{ℕ_discrete, dec_lt}
use lib.ListN.{length}
use lib.Dec.{eqb, ltb}
use borrow.Author.Tests.{eq-eqb, ne_eqb, eqb-true, not-false}
use Rattle.vocabulary.specs.Answer.{Answer, answer}
use Rattle.vocabulary.specs.Those.{those, some}
use Rattle.vocabulary.proofs.Those.{those-empty, some-none}
use Rattle.vocabulary.proofs.Judge.{Passed, judge-silent, judge-passed}
use Rattle.vocabulary.proofs.Bools.{not-both, neither}
use Rattle.register.specs.Register.{Register, folders, class_of, client_of, in_range, lone_zero, differs, earlier, later, pairs, bad_pair, bad_pairs, register_checks, register_answer, Accepted}

pub passed : (r : Register) → Accepted r → Passed (register_checks r)
unfolding register_answer register_checks
passed r ok = (judge-silent (register_checks r) (answer 0 []) 0 refl ok).0

-- Where every row for the register is passed, it is accepted.
pub passed-accepted : (r : Register) → Passed (register_checks r) → Accepted r
unfolding register_answer
passed-accepted r p = ap (λ (a : Answer). a.number) (judge-passed (register_checks r) (answer 0 []) p)

module _ (r : Register) (ok : Accepted r) where
  pub in-range : in_range r ≡ true
  unfolding register_checks
  in-range = not-false (in_range r) (passed r ok).0

  -- Refusal 2 passed: class and client are 0 together.
  pub zeros : (f : ℕ) → f < folders r → lone_zero r f ≡ false
  unfolding register_checks
  zeros f h = those-empty (lone_zero r) (folders r) (some-none _ (passed r ok).1.0) f h

  pub class-zero : (f : ℕ) → f < folders r → class_of r f ≡ 0 → client_of r f ≡ 0
  class-zero f h e = eqb-true (client_of r f) 0 (not-false (eqb (client_of r f) 0) (rw (eq-eqb (class_of r f) 0 e) at (zeros f h)))

  pub client-zero : (f : ℕ) → f < folders r → client_of r f ≡ 0 → class_of r f ≡ 0
  client-zero f h e =
      elim (ℕ_discrete (class_of r f) 0) [
        | yes z ↦ z
        | no z ↦ not-both (eq-eqb (client_of r f) 0 e) (rw (ne_eqb (class_of r f) 0 z) at (zeros f h))
      ]

  -- Refusal 3 passed: no folder differs in class from an earlier one of its client.
  alike : (f g : ℕ) → f < folders r → g < f → differs r f g ≡ false
  unfolding register_checks later earlier
  alike f g h i =
      those-empty (differs r f) f
      (some-none _ (those-empty (λ f. some (earlier r f)) (folders r) (some-none _ (passed r ok).1.1.0) f h))
      g i

  alike-class : (f g : ℕ) → f < folders r → g < f → client_of r g ≡ client_of r f → class_of r g ≡ class_of r f
  alike-class f g h i e =
      eqb-true (class_of r g) (class_of r f)
      (not-false (eqb (class_of r g) (class_of r f)) (rw (eq-eqb (client_of r g) (client_of r f) e) at (alike f g h i)))

  -- Two folders of one client have one class.
  pub class-same : (f g : ℕ) → f < folders r → g < folders r → client_of r f ≡ client_of r g → class_of r f ≡ class_of r g
  class-same f g h i e =
      elim (dec_lt f g) [
        | yes j ↦ alike-class g f i j e
        | no j ↦ elim (ℕ_discrete f g) [ yes k ↦ ap (class_of r) k | no k ↦ sym (alike-class f g h (omega arith) (sym e)) ]
      ]

  -- Refusal 11 passed: in pair mode no pair names client 0 or one client twice.
  pub pair-sound : r.by_pairs ≡ true → (i : ℕ) → i < pairs r → bad_pair r i ≡ false
  unfolding register_checks bad_pairs
  pair-sound mode i h =
      let bad = rw mode at (passed r ok).1.1.1.0 in
      let sizes = not (eqb (pairs r) (length r.seconds)) || ltb 256 (pairs r) in
      those-empty (bad_pair r) (pairs r) (some-none _ (neither sizes (some (those (bad_pair r) (pairs r))) bad).1) i h
