-- `past_lines` meets its contract. The invariant: from i on, the bytes 10 that are left lead to the same place.
use Rattle.std.proofs.Common.{◌-◌, ◌≤◌, ◌≡◌, length}
use Rattle.names.specs.Scan.{past_from}
use Rattle.names.proofs.scan.past_lines.Given as goal

abbrev pub invariant-loop-done : goal.invariant-loop-done
invariant-loop-done l = (l.i ≤ length l.text) × (past_from l.text l.i (l.n - l.done) ≡ past_from l.text l.at l.n)
