-- A row in the matrix, F cells for each person, person by person, and the place of a walk over it (document 01, 'The matrix'; document 02, C-13 and
-- C-14).
use Rattle.std.specs.Prelude.{ℕ, ◌+◌, ◌*◌, ◌≡◌, List, ◌++◌, take, drop}

-- The row that starts at a place: as many cells as there are folders, as far as the matrix has them.
abbrev pub row_at : List ℕ → (start folders : ℕ) → List ℕ
row_at matrix start folders = take folders (drop start matrix)

-- The matrix with another row there.
abbrev pub with_row_at : List ℕ → (start folders : ℕ) → List ℕ → List ℕ
with_row_at matrix start folders row = take start matrix ++ (row ++ drop folders (drop start matrix))

-- The running place of a walk at folder f of a row: 'at every step it is the row's number times F plus the folder', whichever row it is that has this
-- start.
abbrev pub Placed : (folders start f place : ℕ) → Type 0
Placed folders start f place = (place ≡ start + f) × ((row : ℕ) → start ≡ row * folders → place ≡ row * folders + f)
