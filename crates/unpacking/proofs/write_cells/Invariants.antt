-- `write_cells` meets its contract. The invariant: the cells of the first k bytes are written, the others as they were.
use Prim.Native.Nat.{◌*◌}
use mathlib.Core.Path.{◌≡◌}
use lib.ListN.{length}
use Rattle.packing.specs.Cut.{filled}
use Rattle.unpacking.specs.Unpacked.{cell_at}
use Rattle.unpacking.proofs.write_cells.Given as goal

abbrev pub invariant-loop-k : goal.invariant-loop-k
invariant-loop-k l = (length l.cells ≡ length l.initial.cells) × (l.cells ≡ filled (cell_at l.bytes) (4 * l.k) l.initial.cells)
