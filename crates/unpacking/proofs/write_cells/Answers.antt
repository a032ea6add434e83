-- `write_cells` meets its contract. The invariant: the cells of the first k bytes are written, the others as they were.
use lib.ListN.{length-set}
use Rattle.unpacking.proofs.Cells.{filled-again, filled-byte}
use Prim.Native.Nat.{◌+◌, ◌*◌}
use mathlib.Core.Path.{refl}
use Rattle.packing.proofs.Tabulates.{filled_zero}
use native.Mathlib.Omega.{arith}
use borrow.Author.Rules.{rules}
use Rattle.unpacking.proofs.write_cells.Goals as goal

pub loop-k-init : goal.loop-k-init
loop-k-init c = (refl, filled_zero _ _)

pub loop-k-preserved : goal.loop-k-preserved
loop-k-preserved c =
    let bytes = c.args.bytes.now in
    let k = c.loop-k.k in
    (simp length-set (omega arith), filled-byte bytes c.args.cells.now k (4 * (k + 1)) c.loop-k.invariant.1 (omega arith) (omega arith))

pub write_rest-requires : goal.write_rest-requires
write_rest-requires c =
    (search rules, search rules, filled-again _ _ c.loop-k.invariant.1 (search rules))
