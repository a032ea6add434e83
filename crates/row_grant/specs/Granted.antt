-- A grant on a row alone: the row that is left (document 01, 'The four kinds of request'). A row may be given with any lists and any folder. Rows 7 and
-- 8 are not judged here: a kind other than 1 to 4 enters and takes back nothing; a cell above 3 is read by its two rights, and left as the cell that
-- shows them.
use Rattle.std.specs.Prelude.{ℕ, cond, ◌||◌, List, get_or, set}
use Rattle.register.specs.Register.{Register}
use Rattle.policy.specs.Rules.{can_read, can_write, cell_for, reads, writes, row_after}
use Rattle.row_labels.specs.Fitting.{fitting}

-- The row after a grant; the row as it was where lists or folder do not fit it.
unfoldable pub row_granted : Register → List ℕ → ℕ → ℕ → List ℕ
row_granted r row o kind = cond (fitting r row o) (row_after r row o kind) row

-- ---- a grant that takes no right back, on the cell of the folder asked for

-- A cell with the rights that a kind asks for beside those that it has.
abbrev pub cell_with : ℕ → ℕ → ℕ
cell_with c kind = cell_for (can_read c || reads kind) (can_write c || writes kind)

-- The matrix with these rights in the cell at a place; as it was, if it has no such place.
abbrev pub cell_entered : List ℕ → (place kind : ℕ) → List ℕ
cell_entered matrix place kind = set matrix place (cell_with (get_or matrix place 0) kind)
