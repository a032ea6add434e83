-- `ending` meets its contract: nothing at the end, else the line that is told.
use Rattle.std.proofs.Common.{refl}
use borrow.Author.Tests.{le-leb, lt-leb}
use Rattle.desk_core.specs.Output.{ending}
use Rattle.desk_core.proofs.ending.Goals as goal

pub returns-then-text-place : goal.returns-then-text-place
unfolding ending
returns-then-text-place c = rw (c.nothing.ensures, le-leb _ _ c.if-text-place.true) refl

pub returns : goal.returns
unfolding ending
returns c = rw (c.bad_line.ensures, c.line_number.ensures, lt-leb _ _ c.if-text-place.false) refl
