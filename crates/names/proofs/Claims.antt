-- The claims about lines and names, proved.
use Prim.Native.Nat.{ℕ}
use mathlib.Core.List.{List}
use Rattle.names.specs.Claims.{LinesExact, NameExact}
use Rattle.names.proofs.Lines.{ended-line_start, joined_lines-lines, length-lines, line_for-at, line_for-parts}
use Rattle.names.proofs.Names.{name_shown-lies, name_shown-number}

pub lines-exact : LinesExact
lines-exact =
    record {
      joins = joined_lines-lines;
      parts = line_for-parts;
      count = length-lines;
      place = ended-line_start;
      lies = line_for-at;
    }

pub name-exact : (client house : List ℕ) (o : ℕ) → NameExact client house o
name-exact client house o =
    record {
      lies = name_shown-lies client house o;
      number = name_shown-number client house o;
    }
