-- `write_rest` meets its contract. The invariant: the first i cells are written, the others as they were.
use mathlib.Core.Path.{◌≡◌}
use lib.ListN.{length}
use Rattle.packing.specs.Cut.{filled}
use Rattle.unpacking.specs.Unpacked.{cell_at}
use Rattle.unpacking.proofs.write_rest.Given as goal

abbrev pub invariant-loop-i : goal.invariant-loop-i
invariant-loop-i l = (length l.cells ≡ length l.initial.cells) × (l.cells ≡ filled (cell_at l.bytes) l.i l.initial.cells)
