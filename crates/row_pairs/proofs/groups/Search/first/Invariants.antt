-- `first` meets its contract: no folder that the loop has passed is readable and of one of the four.
use Rattle.std.proofs.Common.{◌≡◌, [], length}
use Rattle.vocabulary.specs.Those.{those}
use Rattle.vocabulary.specs.Place.{Placed}
use Rattle.row_pairs.specs.Among.{found}
use Rattle.row_pairs.proofs.groups.Search.first.Given as goal

abbrev pub invariant-loop-f : goal.invariant-loop-f
invariant-loop-f l =
    Placed (length l.self.row.clients.now) l.self.row.cells.start l.f l.at × (those (found l.self) l.f ≡ [])
