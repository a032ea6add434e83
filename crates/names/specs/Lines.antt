-- The lines of a text (document 02, C-11): names of folders, 'one to a line in folder order'.
use Rattle.std.specs.Prelude.{ℕ, min, cond, List, [], ◌∷◌, ◌++◌, eqb, length, get_or, take}
use Rattle.names.specs.declared.Span.{Span}

-- Lines, the first of them with a byte put before it. (A text has at least one line.)
unfoldable pub longer : ℕ → List (List ℕ) → List (List ℕ)
longer b [] = []
longer b (line ∷ rest) = (b ∷ line) ∷ rest

-- 'A line ends at byte 10 or at the end of the text.' The byte 10 is no part of it; all other bytes are alike. So there is one line more than
-- there are bytes 10: the last line, which may be empty, ends with the text.
unfoldable pub lines : List ℕ → List (List ℕ)
lines [] = [] ∷ []
lines (b ∷ text) = cond (eqb b 10) ([] ∷ lines text) (longer b (lines text))

-- The line of a folder, in folder order from 0. A text that is too short has none for it: that is the empty line here, since C-11 treats both alike.
unfoldable pub line_for : List ℕ → ℕ → List ℕ
line_for text o = get_or (lines text) o []

-- Lines, each with the byte 10 that ends it.
unfoldable pub with_ends : List (List ℕ) → List ℕ
with_ends [] = []
with_ends (line ∷ rest) = line ++ 10 ∷ with_ends rest

-- Where a folder's line begins: behind the lines before it. In a text that is too short: at its end.
unfoldable pub line_start : List ℕ → ℕ → ℕ
line_start text o = min (length (with_ends (take o (lines text)))) (length text)

-- Where a folder's line lies: its place in the text, and how many bytes it has.
abbrev pub line_span : List ℕ → ℕ → Span
line_span text o =
    record {
      place = line_start text o;
      length = length (line_for text o);
    }
