-- `line_start` meets its contract. The invariant: from i on, `left` bytes 10 lead to the same place.
use Rattle.std.proofs.Common.{◌-◌, ◌≤◌, ◌≡◌, length}
use Rattle.names.specs.Scan.{past, past_from}
use Rattle.names.proofs.scan.line_start.Given as goal

abbrev pub invariant-loop-block : goal.invariant-loop-block
invariant-loop-block l = (l.i ≤ length l.text) × (past_from l.text l.i l.left ≡ past l.text l.n)

abbrev pub decreases-loop-block : goal.decreases-loop-block
decreases-loop-block l = length l.text - l.i
