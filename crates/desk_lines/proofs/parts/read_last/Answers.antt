-- `read_last` meets its contract: after the number the line ends, or it is ill-formed.
use Rattle.std.proofs.Common.{refl}
use Rattle.vocabulary.specs.Parsed.{◌>>=◌}
use Rattle.desk_lines.specs.Lines.{last_at}
use Rattle.desk_lines.proofs.parts.read_last.Goals as goal

pub returns-in_err-n : goal.returns-in_err-n
unfolding last_at ◌>>=◌
returns-in_err-n c = rw (c.from_residual.ensures, ← c.read_part.ensures, c.in_err-n.was) refl

pub returns-in_err-next : goal.returns-in_err-next
unfolding last_at ◌>>=◌
returns-in_err-next c =
    rw (c.from_residual-in_err-next.ensures, ← c.read_part.ensures, c.in_ok-n.was, ← c.read_byte.ensures, c.in_err-next.was) refl

pub returns : goal.returns
unfolding last_at ◌>>=◌
returns c = rw (← c.read_part.ensures, c.in_ok-n.was, ← c.read_byte.ensures, c.in_ok-next.was) refl
