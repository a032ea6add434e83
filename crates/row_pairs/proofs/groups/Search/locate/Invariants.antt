-- `locate` meets its contract: no folder of the blocks that the loop has passed is readable and of one of the four.
use Rattle.std.proofs.Common.{◌≡◌, ◌≤◌, ◌-◌, [], length}
use Rattle.vocabulary.specs.Those.{those}
use Rattle.vocabulary.specs.Place.{Placed}
use Rattle.row_pairs.specs.Among.{found}
use Rattle.row_pairs.proofs.groups.Search.locate.Given as goal

abbrev pub invariant-loop-f : goal.invariant-loop-f
invariant-loop-f l =
    (l.f ≤ l.to) × Placed (length l.self.row.clients.now) l.self.row.cells.start l.f l.place × (those (found l.self) l.f ≡ [])

abbrev pub decreases-loop-f : goal.decreases-loop-f
decreases-loop-f l = l.to - l.f
