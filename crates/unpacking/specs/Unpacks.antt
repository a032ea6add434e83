-- What unpacking answers and leaves (document 01, 'The matrix').
use Rattle.std.specs.Prelude.{ℕ, not, List, [], ◌∷◌, eqb, length}
use Rattle.vocabulary.specs.Answer.{Answer, answer, check, judge}
use Rattle.packing.specs.CopyOutcome.{CopyOutcome, leaves, unequal}
use Rattle.unpacking.specs.Unpacked.{unpacked, unused}

-- Unpacking: '61 .., then 62 for unused bits set'.
abbrev pub unpack_answer : List ℕ → List ℕ → Answer
unpack_answer bytes buffer =
    judge
    (check (unequal (length bytes) (length buffer)) 61 [] ∷ check (not (eqb (unused (length buffer) bytes) 0)) 62 [] ∷ [])
    (answer 0 [])

unfoldable pub unpacks : List ℕ → List ℕ → CopyOutcome
unpacks bytes buffer = leaves (unpack_answer bytes buffer) (unpacked (length buffer) bytes) buffer
