-- Laws of the opening: what the register's check makes of it.
use Prim.Native.Nat.{ℕ, ◌<◌}
use mathlib.Core.Path.{◌≡◌}
use mathlib.Core.Bool.{and-false}
use mathlib.Core.List.{List, []}
use lib.ListN.{length}
use borrow.Author.Tests.{lt-leb}
use Rattle.vocabulary.specs.Answer.{answer, judge}
use Rattle.vocabulary.proofs.Bools.{true-or-false}
use Rattle.register.specs.Register.{Register, in_range, register_of, register_checks, register_answer}
use Rattle.register.proofs.Answers.{in_range-ranged, answer-range}
use Rattle.std.proofs.Common.{arith, ap, ◌≤◌, ◌∙◌, sym, true, false}
use mathlib.Core.Logic.{◌⊎◌, inl, inr}
use Rattle.vocabulary.specs.Answer.{Answer}

-- Too many folders are out of range, whatever they are.
pub register-over : (p : ℕ) (cs ds : List ℕ) → 512 < length cs → register_answer (register_of p cs ds) ≡ answer 1 []
unfolding register_answer register_checks judge
register-over p cs ds h = rw (lt-leb (length cs) 512 h, and-false)

-- A register that is accepted has no more logins than 128.
pub accepted-few : (r : Register) → register_answer r ≡ answer 0 [] → r.logins ≤ 128
accepted-few r e = by (true-or-false (in_range r))
  where
    by : (in_range r ≡ true) ⊎ (in_range r ≡ false) → r.logins ≤ 128
    by (inl t) = (in_range-ranged r t).logins-few
    by (inr f) = absurd (omega (arith, ap (λ (a : Answer). a.number) (sym (answer-range r f) ∙ e)))
