-- `seek_above` meets its contract: no cell that the walk has passed is above 3.
use Rattle.std.proofs.Common.{◌≡◌, []}
use Rattle.vocabulary.specs.Those.{those}
use Rattle.vocabulary.specs.Place.{row_at, Placed}
use Rattle.cells.specs.Above.{above}
use Rattle.cells.proofs.whole.WholeRow.seek_above.Given as goal

abbrev pub invariant-loop-f : goal.invariant-loop-f
invariant-loop-f l =
    Placed l.self.folders l.self.start l.f l.place
    × (those (above (row_at l.self.matrix.now l.self.start l.self.folders)) l.f ≡ [])
