-- `any_above` meets its contract: what is joined is above 3 just where a cell that the walk has passed is.
use Rattle.std.proofs.Common.{◌≡◌, ltb}
use Rattle.vocabulary.specs.Those.{those, some}
use Rattle.vocabulary.specs.Place.{row_at, Placed}
use Rattle.cells.specs.Above.{above}
use Rattle.cells.proofs.whole.WholeRow.any_above.Given as goal

abbrev pub invariant-loop-f : goal.invariant-loop-f
invariant-loop-f l =
    Placed l.self.folders l.self.start l.f l.place
    × (ltb 3 l.joined ≡ some (those (above (row_at l.self.matrix.now l.self.start l.self.folders)) l.f))
