-- Laws of counting lines.
use Rattle.std.proofs.Common.{arith, ℕ, suc, ◌+◌, ◌≤◌, ◌≡◌, refl, Bool, true, false, cond, eqb, List, length}
use Rattle.std.specs.List.{count_by}
use Rattle.std.proofs.lemmas.List.Recursion.{is_count_by}
use Rattle.std.proofs.lemmas.List.Sums.{count_by-le-length}
use Rattle.line_numbers.specs.LineNumber.{ended}

-- The lines that have ended are the bytes 10.
pub ended_count : (text : List ℕ) → ended text ≡ count_by (λ b. eqb b 10) text
unfolding ended
ended_count = is_count_by ended (λ b. eqb b 10) refl (λ b bs. one-more (eqb b 10) (ended bs))
  where
    one-more : (t : Bool) (n : ℕ) → cond t (suc n) n ≡ cond t (1 + n) n
    one-more true n = omega arith
    one-more false n = refl

-- No more lines than bytes.
pub ended-most : (text : List ℕ) → ended text ≤ length text
ended-most text = rw (ended_count text) (count_by-le-length (λ b. eqb b 10) text)
