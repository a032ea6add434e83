-- `list_by` meets its contract: the marks list the folders at stake.
use Rattle.std.proofs.Common.{arith}
use Rattle.row_lost.proofs.Listed.{listed-same}
use Rattle.row_lost.proofs.Marked.{marked-those}
use Rattle.row_lost.proofs.walks.list_by.Goals as goal

pub whole_as_slice-mark_stakes : goal.whole_as_slice-mark_stakes
whole_as_slice-mark_stakes g c = omega arith

pub shared_whole_as_front-list_marked : goal.shared_whole_as_front-list_marked
shared_whole_as_front-list_marked g c = (c.requires.marks, omega arith)

pub returns : goal.returns
returns g c =
    listed-same (marked-those _ _ _ (omega arith) c.mark_stakes.ensures) c.list_marked.ensures
