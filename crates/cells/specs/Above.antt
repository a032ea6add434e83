-- The cells of a list that are above 3 (document 01, 'The matrix': a cell is 0 to 3).
use Rattle.std.specs.Prelude.{ℕ, Bool, List, ltb, length, get_or}
use Rattle.vocabulary.specs.Those.{those}

-- Whether the cell at a place is above 3, and the places of all such cells.
abbrev pub above : List ℕ → ℕ → Bool
above cells i = ltb 3 (get_or cells i 0)

unfoldable pub aboves : List ℕ → List ℕ
aboves cells = those (above cells) (length cells)

-- The place of the first of them; the list's length where there is none.
abbrev pub first_above : List ℕ → ℕ
first_above cells = get_or (aboves cells) 0 (length cells)
