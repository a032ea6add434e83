-- `write_bytes` meets its contract. The invariant: the first k bytes are those of the packed form, the others as they were.
use Rattle.std.proofs.Common.{◌≡◌, length}
use Rattle.packing.specs.Cut.{filled}
use Rattle.packing.specs.Packed.{byte_at}
use Rattle.packing.proofs.write_bytes.Given as goal

abbrev pub invariant-loop-k : goal.invariant-loop-k
invariant-loop-k l = (length l.bytes ≡ length l.initial.bytes) × (l.bytes ≡ filled (byte_at l.cells) l.k l.initial.bytes)
