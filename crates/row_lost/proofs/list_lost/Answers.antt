-- `list_lost` meets its contract: past the list's end there is nothing to clear.
use Rattle.std.proofs.Common.{refl, sym}
use lib.Seq.{set_out}
use Rattle.row_lost.specs.Lost.{lost_listed}
use Rattle.row_lost.specs.Cut.{lost_within}
use Rattle.row_lost.proofs.Listed.{listed-cleared}
use Rattle.row_lost.proofs.list_lost.Goals as goal

pub returns-then-count-list : goal.returns-then-count-list
unfolding lost_listed lost_within
returns-then-count-list c = listed-cleared c.list_from_start-count.ensures refl

pub returns-else-count-list : goal.returns-else-count-list
unfolding lost_listed lost_within
returns-else-count-list c =
    listed-cleared c.list_from_start-count.ensures (sym (set_out _ _ _ c.if-count-list.false))
