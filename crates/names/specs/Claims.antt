-- What makes the lines of a text its lines, and a stretch the stretch of a name (document 02, C-11).
use Rattle.std.specs.Prelude.{ℕ, suc, min, cond, false, List, [], ◌∷◌, ◌++◌, ◌≡◌, length, take, drop}
use Rattle.vocabulary.specs.Those.{member, some}
use Rattle.line_numbers.specs.LineNumber.{ended}
use Rattle.names.specs.Lines.{line_for, lines, line_start}
use Rattle.names.specs.Name.{name_of, name_shown, text_of}
use Rattle.names.specs.declared.Stretch.{Stretch}

-- Lines joined by byte 10.
unfoldable pub joined_lines : List (List ℕ) → List ℕ
joined_lines [] = []
joined_lines (line ∷ []) = line
joined_lines (line ∷ next ∷ rest) = line ++ 10 ∷ joined_lines (next ∷ rest)

-- (`ended` counts the bytes 10 of a text.)
pub record LinesExact : Type 0 where
  -- The lines, joined by byte 10, give the text back,
  pub joins : (text : List ℕ) → joined_lines (lines text) ≡ text
  -- and none of them has a byte 10: the text is parted at every byte 10 and nowhere else;
  pub parts : (text : List ℕ) (o : ℕ) → member 10 (line_for text o) ≡ false
  -- there is one line more than there are bytes 10.
  pub count : (text : List ℕ) → length (lines text) ≡ suc (ended text)
  -- Before a line's place are as many bytes 10 as the line's number says, or all of them where the text is too short,
  pub place : (text : List ℕ) (o : ℕ) → ended (take (line_start text o) text) ≡ min o (ended text)
  -- and what lies there, for as many bytes as the line has, is the line.
  pub lies : (text : List ℕ) (o : ℕ) → take (length (line_for text o)) (drop (line_start text o) text) ≡ line_for text o

-- What lies at a stretch.
abbrev pub bytes_at : Stretch → List ℕ → List ℕ → List ℕ
bytes_at s client house = take s.length (drop s.place (text_of s client house))

pub record NameExact (client house : List ℕ) (o : ℕ) : Type 0 where
  -- What lies at the stretch that is told is the name,
  pub lies : bytes_at (name_shown client house o) client house ≡ name_of client house o
  -- and the stretch's number is 81 just where the name is empty.
  pub number : (name_shown client house o).number ≡ cond (some (name_of client house o)) 0 81
