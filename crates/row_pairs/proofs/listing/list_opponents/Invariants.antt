-- `list_opponents` meets its contract: what is listed so far are the opponents in the pairs that the loop has passed.
use Rattle.std.proofs.Common.{◌≡◌, ◌≤◌, length, take}
use Rattle.row_pairs.specs.Opponents.{opponents}
use Rattle.row_pairs.proofs.listing.list_opponents.Given as goal

abbrev pub invariant-loop-i : goal.invariant-loop-i
invariant-loop-i l =
    (l.n ≤ 32) × (length l.room ≡ 32) × (take l.n l.room ≡ opponents l.pairs.lists.firsts.now l.pairs.lists.seconds.now l.client.0 l.i)
