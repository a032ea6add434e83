-- `list_marked` meets its contract. The invariant: what is listed so far are the marked places that the walk has passed.
use Rattle.std.proofs.Common.{length, ◌≡◌, ◌≤◌}
use Rattle.vocabulary.specs.Those.{those}
use Rattle.row_lost.specs.Cut.{ListedSoFar, marked}
use Rattle.row_lost.proofs.walks.list_marked.Given as goal

abbrev pub invariant-loop-f : goal.invariant-loop-f
invariant-loop-f l =
    (length l.list ≡ length l.initial.list)
    × (l.count ≤ l.f)
    × ListedSoFar l.initial.list (those (marked l.marks) l.f) l.list l.count
