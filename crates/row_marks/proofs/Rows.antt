-- A row that the matrix has whole.
use Prim.Native.Nat.{ℕ, ◌-◌, min}
use mathlib.Core.Path.{◌≡◌}
use mathlib.Core.List.{List}
use native.Mathlib.Omega.{arith}
use native.Mathlib.Decide.{dec_lt}
use lib.Dec.{eqb, leb}
use lib.ListN.{length, length-take, length-drop}
use borrow.Author.Tests.{eq-eqb, ne_eqb, le-leb, lt-leb}
use Rattle.vocabulary.specs.Place.{row_at}
use Rattle.row_marks.specs.declared.fitting.ClientRow.{ClientRow}
use Rattle.row_marks.specs.Walk.{cells_of}

long : (m : List ℕ) (start n : ℕ) → length (row_at m start n) ≡ min n (length m - start)
long m start n = rw (length-take, length-drop)

-- It has as many cells as there are clients.
pub cells-length : (row : ClientRow) → length (cells_of row) ≡ length row.clients.now
cells-length row =
    let inside = row.inside in
    omega (arith, long row.cells.matrix.now row.cells.start (length row.clients.now))

-- It has them just where the matrix has so many from its start on.
pub row-fits : (m : List ℕ) (start n : ℕ) → leb n (length m - start) ≡ eqb n (length (row_at m start n))
row-fits m start n =
    elim (dec_lt (length m - start) n) [
      | yes h ↦ rw (lt-leb n (length m - start) h, ne_eqb n (length (row_at m start n)) (λ e. omega (arith, long m start n)))
      | no h ↦ rw (le-leb n (length m - start) (omega arith), eq-eqb n (length (row_at m start n)) (omega (arith, long m start n)))
    ]
