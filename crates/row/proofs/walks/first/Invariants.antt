-- `first` meets its contract: no folder that the walk has passed passes the test.
use Rattle.std.proofs.Common.{length, ◌≡◌, []}
use Rattle.vocabulary.specs.Place.{row_at, Placed}
use Rattle.vocabulary.specs.Those.{those}
use Rattle.row.specs.Cut.{Test, Tells, passes_at}
use Rattle.row.proofs.walks.first.Given as goal

abbrev pub invariant-loop-f : goal.invariant-loop-f
invariant-loop-f g l =
    let n = length l.labels.classes.now in
    goal.F-IsAlwaysCallable g l.test
    × Placed n l.row.start l.f l.place
    × ((p : Test) → Tells (goal.F-post g l.test) p → those (passes_at p (row_at l.row.matrix.now l.row.start n) l.labels.classes.now l.labels.clients.now l.o) l.f ≡ [])
