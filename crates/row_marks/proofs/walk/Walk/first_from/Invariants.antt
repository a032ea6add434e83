-- `first_from` meets its contract: no folder that the walk has passed may be read with its client marked.
use Rattle.std.proofs.Common.{◌≡◌, [], length}
use Rattle.vocabulary.specs.Those.{those}
use Rattle.vocabulary.specs.Place.{Placed}
use Rattle.row_marks.specs.Walk.{found}
use Rattle.row_marks.proofs.walk.Walk.first_from.Given as goal

abbrev pub invariant-loop-f : goal.invariant-loop-f
invariant-loop-f l =
    Placed (length l.self.row.clients.now) l.self.row.cells.start l.f l.at × (those (found l.self) l.f ≡ [])
