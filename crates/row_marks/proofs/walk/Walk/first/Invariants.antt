-- `first` meets its contract: no folder of the turns that the walk has passed is found.
use Rattle.std.proofs.Common.{◌≡◌, ◌≤◌, ◌%◌, ◌-◌, [], length}
use Rattle.vocabulary.specs.Those.{those}
use Rattle.vocabulary.specs.Place.{Placed}
use Rattle.row_marks.specs.Walk.{found}
use Rattle.row_marks.proofs.walk.Walk.first.Given as goal

abbrev pub invariant-loop-f : goal.invariant-loop-f
invariant-loop-f l =
    (l.f ≤ l.whole) × (l.f % 24 ≡ 0) × Placed (length l.self.row.clients.now) l.self.row.cells.start l.f l.place × (those (found l.self) l.f ≡ [])

abbrev pub decreases-loop-f : goal.decreases-loop-f
decreases-loop-f l = l.whole - l.f
