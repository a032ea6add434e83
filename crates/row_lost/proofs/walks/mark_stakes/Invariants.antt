-- `mark_stakes` meets its contract. The invariant: the folders that the walk has passed are marked.
use Rattle.std.proofs.Common.{length, ◌≡◌}
use Rattle.vocabulary.specs.Place.{row_at, Placed}
use Rattle.cell_rules.specs.Cut.{is_at_stake}
use Rattle.row.specs.Cut.{passes_at}
use Rattle.row_lost.specs.Cut.{Marked}
use Rattle.row_lost.proofs.walks.mark_stakes.Given as goal

abbrev pub invariant-loop-f : goal.invariant-loop-f
invariant-loop-f l =
    let n = length l.labels.classes.now in
    Placed n l.row.start l.f l.place
    × (length l.marks ≡ length l.initial.marks)
    × Marked (passes_at is_at_stake (row_at l.row.matrix.now l.row.start n) l.labels.classes.now l.labels.clients.now l.o) l.f l.marks
