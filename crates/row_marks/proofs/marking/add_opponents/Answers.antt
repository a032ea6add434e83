-- `add_opponents` meets its contract, pass by pass.
use Rattle.row_marks.proofs.Opponents.{listed-wanted}
use Rattle.row_marks.proofs.marking.add_opponents.Goals as goal

pub returns : goal.returns
returns c x =
    rw (c.add_wanted.ensures x, listed-wanted _ _ _ x c.of.ensures)
