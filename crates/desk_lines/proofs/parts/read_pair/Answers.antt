-- `read_pair` meets its contract: two numbers, of which the second ends the line.
use Rattle.std.proofs.Common.{refl}
use Rattle.vocabulary.specs.Parsed.{◌>>=◌}
use Rattle.desk_lines.specs.Lines.{pair_at}
use Rattle.desk_lines.proofs.parts.read_pair.Goals as goal

pub returns-in_err-first : goal.returns-in_err-first
unfolding pair_at ◌>>=◌
returns-in_err-first c make = rw (c.from_residual.ensures, ← c.read_part.ensures, c.in_err-first.was) refl

pub returns-in_err-last : goal.returns-in_err-last
unfolding pair_at ◌>>=◌
returns-in_err-last c make =
    rw (c.from_residual-in_err-last.ensures, ← c.read_part.ensures, c.in_ok-first.was, ← c.read_last.ensures, c.in_err-last.was) refl

pub returns : goal.returns
unfolding pair_at ◌>>=◌
returns c make = rw (← c.read_part.ensures, c.in_ok-first.was, ← c.read_last.ensures, c.in_ok-last.was) refl
