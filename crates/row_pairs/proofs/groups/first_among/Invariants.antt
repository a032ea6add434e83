-- `first_among` meets its contract: the first find of the clients that the loop has passed.
use Rattle.std.proofs.Common.{◌≡◌, ◌-◌, length, take}
use Rattle.row_marks.specs.Walk.{cells_of}
use Rattle.row_pairs.specs.Among.{first_among}
use Rattle.row_pairs.proofs.groups.first_among.Given as goal

abbrev pub invariant-loop-i : goal.invariant-loop-i
invariant-loop-i l = l.first ≡ first_among (take l.i l.list) (cells_of l.row) l.row.clients.now

abbrev pub decreases-loop-i : goal.decreases-loop-i
decreases-loop-i l = length l.list - l.i
