-- `open` meets its contract: the length, then the first line.
use Rattle.std.proofs.Common.{refl}
use borrow.Author.Tests.{lt-ltb, le-ltb}
use Rattle.desk_opening.specs.Opened.{opened}
use Rattle.desk_opening.proofs.open.Goals as goal

pub returns-then-text-gt65536 : goal.returns-then-text-gt65536
unfolding opened
returns-then-text-gt65536 c = rw (c.input_too_long.ensures, lt-ltb _ _ c.if-text-gt65536.true) refl

pub returns : goal.returns
unfolding opened
returns c = rw (c.from_first.ensures, le-ltb _ _ c.if-text-gt65536.false) refl
