-- `of` meets its contract: the pairs passed are listed.
use Rattle.std.proofs.Common.{◌≡◌, length}
use Rattle.row_marks.specs.Marks.{Listed}
use Rattle.row_marks.proofs.marking.Listing.of.Given as goal

abbrev pub invariant-loop-i : goal.invariant-loop-i
invariant-loop-i l = (length l.list.others ≡ 256) × (length l.list.wanted ≡ 256) × Listed l.pairs l.client.0 l.list l.i
