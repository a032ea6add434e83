-- `end_blocks` meets its contract. The invariant: from i on, the first byte 10 is the same.
use Rattle.std.proofs.Common.{◌-◌, ◌≤◌, ◌≡◌, length}
use Rattle.names.specs.Scan.{end_from}
use Rattle.names.proofs.scan.end_blocks.Given as goal

abbrev pub invariant-loop-block : goal.invariant-loop-block
invariant-loop-block l = (l.i ≤ length l.text) × (end_from l.text l.i ≡ end_from l.text l.at)

abbrev pub decreases-loop-block : goal.decreases-loop-block
decreases-loop-block l = length l.text - l.i
