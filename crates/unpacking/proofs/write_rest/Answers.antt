-- `write_rest` meets its contract. The invariant: the first i cells are written, the others as they were.
use Prim.Native.Nat.{◌%◌}
use mathlib.Core.Path.{refl, ap}
use Rattle.unpacking.specs.Unpacked.{unpacked}
use Rattle.packing.proofs.Tabulates.{set-filled, filled-length}
use borrow.Author.Rules.{rules}
use Rattle.unpacking.proofs.write_rest.Goals as goal

pub loop-i-preserved : goal.loop-i-preserved
loop-i-preserved c =
    (search rules, set-filled _ _ c.loop-i.invariant.1 refl (ap (λ b. b % 4) c.from_cell.ensures) (search rules))

pub returns : goal.returns
unfolding unpacked
returns c = filled-length _ _ c.loop-i.invariant.1 (search rules) refl
