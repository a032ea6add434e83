-- `least` meets its contract: it is the first folder that the walk has passed and that passes the test, or the row's length.
use Rattle.std.proofs.Common.{length, get_or, ◌≡◌}
use Rattle.vocabulary.specs.Place.{row_at, Placed}
use Rattle.vocabulary.specs.Those.{those}
use Rattle.row.specs.Cut.{Test, Tells, passes_at}
use Rattle.row.proofs.walks.least.Given as goal

abbrev pub invariant-loop-f : goal.invariant-loop-f
invariant-loop-f g l =
    let n = length l.labels.classes.now in
    goal.F-IsAlwaysCallable g l.test
    × Placed n l.row.start l.f l.place
    × (l.none ≡ n)
    × ((p : Test) → Tells (goal.F-post g l.test) p → l.least ≡ get_or (those (passes_at p (row_at l.row.matrix.now l.row.start n) l.labels.classes.now l.labels.clients.now l.o) l.f) 0 n)
