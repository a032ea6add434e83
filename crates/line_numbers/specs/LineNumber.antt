-- The number of a line (document 01, 'The desk program').
use Rattle.std.specs.Prelude.{ℕ, suc, cond, List, [], ◌∷◌, eqb, take}

-- How many lines have ended in a text.
unfoldable pub ended : List ℕ → ℕ
ended [] = 0
ended (b ∷ bs) = cond (eqb b 10) (suc (ended bs)) (ended bs)

-- The number of the line at a place, counted from 1.
abbrev pub line_number : List ℕ → ℕ → ℕ
line_number text place = suc (ended (take place text))
