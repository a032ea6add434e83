-- `take_back` meets its contract. The invariant: what the walk has passed of the row is changed, the rest of the matrix is as it was.
use Rattle.std.proofs.Common.{length, ◌≡◌}
use Rattle.vocabulary.specs.Place.{row_at, with_row_at, Placed}
use Rattle.vocabulary.proofs.Each.{up_to}
use Rattle.row_grant.specs.Cut.{taken_at}
use Rattle.row_grant.proofs.take_back.Given as goal

abbrev pub invariant-loop-f : goal.invariant-loop-f
invariant-loop-f l =
    let n = length l.labels.classes.now in
    Placed n l.start l.f l.place
    × (length l.matrix ≡ length l.initial.matrix)
    × (l.matrix ≡ with_row_at l.initial.matrix l.start n (up_to (taken_at l.labels.classes.now l.labels.clients.now l.o l.kind) l.f (row_at l.initial.matrix l.start n)))
