-- What packing answers and leaves, in terms that unpacking shares (document 01, 'The matrix').
use Rattle.std.specs.Prelude.{ℕ, Bool, cond, not, List, [], ◌∷◌, eqb, length}
use Rattle.vocabulary.specs.Answer.{Answer, answer, check, judge}
use Rattle.vocabulary.specs.Those.{some, smallest}
use Rattle.cells.specs.Above.{aboves}
use Rattle.packing.specs.Packed.{quarter, packed}

-- The answer, and the lent buffer afterwards.
pub record CopyOutcome : Type 0 where
  pub told : Answer
  pub left : List ℕ

abbrev pub copy_outcome : Answer → List ℕ → CopyOutcome
copy_outcome a l =
    record {
      told = a;
      left = l;
    }

-- An answer 0 leaves the result; a refusal changes nothing.
abbrev pub leaves : Answer → List ℕ → List ℕ → CopyOutcome
leaves a result buffer = copy_outcome a (cond (eqb a.number 0) result buffer)

-- '61 for lengths that don't match.'
abbrev pub unequal : ℕ → ℕ → Bool
unequal bytes cells = not (eqb bytes (quarter cells))

-- Packing: '61 .., then 60 for the first cell above 3, with its place'.
abbrev pub pack_answer : List ℕ → List ℕ → Answer
pack_answer cells buffer =
    judge
    (check (unequal (length buffer) (length cells)) 61 [] ∷ check (some (aboves cells)) 60 (smallest (aboves cells) ∷ []) ∷ [])
    (answer 0 [])

unfoldable pub packs : List ℕ → List ℕ → CopyOutcome
packs cells buffer = leaves (pack_answer cells buffer) (packed cells) buffer
