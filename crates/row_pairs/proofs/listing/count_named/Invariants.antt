-- `count_named` meets its contract: the count is that of the pairs that the loop has passed.
use Rattle.std.proofs.Common.{◌≡◌, ◌≤◌, length}
use Rattle.vocabulary.specs.Those.{those}
use Rattle.row_pairs.specs.Opponents.{names}
use Rattle.row_pairs.proofs.listing.count_named.Given as goal

abbrev pub invariant-loop-i : goal.invariant-loop-i
invariant-loop-i l =
    (l.count ≤ l.i) × (l.count ≡ length (those (names l.pairs.lists.firsts.now l.pairs.lists.seconds.now l.client.0) l.i))
