-- `read_and_marked` meets its contract: what both have in common is odd, and a word's lowest byte has its lowest bit.
use Prim.Native.Nat.{◌%◌}
use mathlib.Core.Path.{◌≡◌}
use native.Mathlib.Omega.{arith}
use Rattle.row_marks.proofs.Words.{odd-and}
use Rattle.row_marks.proofs.walk.read_and_marked.Goals as goal

pub returns : goal.returns
returns c =
    let lowest : c.args.bits % 256 % 2 ≡ c.args.bits % 2 = omega arith in
    rw lowest at (odd-and (c.args.bits % 256) c.args.cell)
