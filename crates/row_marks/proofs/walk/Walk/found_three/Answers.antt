-- `found_three` meets its contract: three folders put together are odd if one is.
use Rattle.row_marks.proofs.Words.{odd-or}
use Rattle.row_marks.proofs.walk.Walk.found_three.Goals as goal

pub returns : goal.returns
returns c =
    rw (odd-or, odd-or, c.found-one.ensures, c.found-two.ensures, c.found-three.ensures)
