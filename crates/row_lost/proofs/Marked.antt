-- Folders marked in an array, those at stake, and listed by their marks.
use Rattle.std.proofs.Common.{ℕ, Bool, List, ◌≡◌, ◌∙◌, ◌+◌, ◌<◌, ◌≤◌, length, take, set, arith}
use native.Mathlib.Decide.{ℕ_discrete}
use lib.Seq.{length-take-le, get_or-take, get_or-set_same, get_or-set_other}
use Rattle.vocabulary.specs.Those.{those}
use Rattle.vocabulary.proofs.Those.{those-agree}
use Rattle.row_lost.specs.Cut.{Marked, marked}

pub marked-none : (p : ℕ → Bool) (marks : List Bool) → Marked p 0 marks
marked-none p marks =
    record {
      told = λ i h. absurd (omega arith);
    }

-- The next number gets its mark, if there is a place for it.
pub marked_next : (p : ℕ → Bool) (marks : List Bool) (n : ℕ) → n < length marks → Marked p n marks → Marked p (n + 1) (set marks n (p n))
marked_next p marks n h s =
    record {
      told = told;
    }
  where
    told : (i : ℕ) → i < n + 1 → marked (set marks n (p n)) i ≡ p i
    told i k =
        elim (ℕ_discrete i n) [
          | yes e ↦ rw e (get_or-set_same marks n (p n) _ h)
          | no d ↦ get_or-set_other marks n i (p n) _ d ∙ s.told i (omega arith)
        ]

-- The first n marks list the numbers that pass the test.
pub marked-those : (p : ℕ → Bool) (marks : List Bool) (n : ℕ) → n ≤ length marks → Marked p n marks →
    those (marked (take n marks)) (length (take n marks)) ≡ those p n
marked-those p marks n h s =
    rw (length-take-le n marks h) (those-agree (marked (take n marks)) p n (λ i k. get_or-take n marks i _ k ∙ s.told i k))
