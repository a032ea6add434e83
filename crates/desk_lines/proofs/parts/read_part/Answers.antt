-- `read_part` meets its contract: after the space the number is read.
use Rattle.std.proofs.Common.{refl}
use Rattle.vocabulary.specs.Parsed.{◌>>=◌}
use Rattle.desk_lines.specs.Lines.{part_at}
use Rattle.desk_lines.proofs.parts.read_part.Goals as goal

pub returns-in_err-at : goal.returns-in_err-at
unfolding part_at ◌>>=◌
returns-in_err-at c = rw (c.from_residual.ensures, ← c.read_byte.ensures, c.in_err-at.was) refl

pub returns : goal.returns
unfolding part_at ◌>>=◌
returns c = rw (← c.read_byte.ensures, c.in_ok-at.was) c.read_number.ensures
