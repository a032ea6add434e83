-- `write_bytes` meets its contract. The invariant: the first k bytes are those of the packed form, the others as they were.
use Rattle.std.proofs.Common.{rules, refl}
use Rattle.packing.specs.Packed.{packed}
use Rattle.packing.proofs.Tabulates.{filled_zero, set-filled, filled-length}
use Rattle.packing.proofs.write_bytes.Goals as goal

pub loop-k-init : goal.loop-k-init
loop-k-init c = (refl, filled_zero _ _)

pub loop-k-preserved : goal.loop-k-preserved
loop-k-preserved c = (search rules, set-filled _ _ c.loop-k.invariant.1 refl c.whole_byte.ensures (search rules))

pub returns-then-whole-bytes : goal.returns-then-whole-bytes
unfolding packed
returns-then-whole-bytes c =
    filled-length _ _ (set-filled _ _ c.loop-k.invariant.1 (search rules) c.last_byte.ensures (search rules)) (search rules) (search rules)

pub returns-else-whole-bytes : goal.returns-else-whole-bytes
unfolding packed
returns-else-whole-bytes c = filled-length _ _ c.loop-k.invariant.1 (search rules) (search rules)
