-- Internal: the walk over a row for a readable folder of a marked client. No rule of document 02 stands here.
use Rattle.std.specs.Prelude.{ℕ, ◌+◌, Bool, ◌&&◌, ◌||◌, List, length, get_or}
use Rattle.vocabulary.specs.Those.{those}
use Rattle.vocabulary.specs.Place.{row_at}
use Rattle.policy.specs.Rules.{cell, can_read}
use Rattle.row_marks.specs.declared.client_set.ClientSet.{ClientSet}
use Rattle.row_marks.specs.declared.fitting.ClientRow.{ClientRow}
use Rattle.row_marks.specs.declared.walk.Walk.{Walk}
use Rattle.row_marks.specs.Marks.{marked}

-- The row's cells.
abbrev pub cells_of : ClientRow → List ℕ
cells_of row = row_at row.cells.matrix.now row.cells.start (length row.clients.now)

-- Folder f may be read, and its client is marked.
abbrev pub readable_marked : ClientRow → ClientSet → ℕ → Bool
readable_marked row set f = can_read (cell (cells_of row) f) && marked set (get_or row.clients.now f 0)

abbrev pub found : Walk → ℕ → Bool
found walk f = readable_marked walk.row walk.marks.now f

-- The first such folder, or the row's length.
abbrev pub first_found : Walk → ℕ
first_found walk = get_or (those (found walk) (length (cells_of walk.row))) 0 (length (cells_of walk.row))

-- One of three numbers, from i on, passes the test.
abbrev pub any_of_three : (ℕ → Bool) → ℕ → Bool
any_of_three p i = (p i || p (i + 1)) || p (i + 2)
