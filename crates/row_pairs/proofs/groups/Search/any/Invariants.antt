-- `any` meets its contract: the flag says whether a folder that the loop has passed is readable and of one of the four.
use Rattle.std.proofs.Common.{◌≡◌, length}
use Rattle.vocabulary.specs.Those.{those, some}
use Rattle.vocabulary.specs.Place.{Placed}
use Rattle.row_pairs.specs.Among.{found}
use Rattle.row_pairs.proofs.groups.Search.any.Given as goal

abbrev pub invariant-loop-f : goal.invariant-loop-f
invariant-loop-f l =
    Placed (length l.self.row.clients.now) l.self.row.cells.start l.f l.at × (l.seen ≡ some (those (found l.self) l.f))
