-- `before_break` meets its contract: the bytes that the loop has passed have no byte 10.
use Rattle.std.proofs.Common.{◌≤◌}
use Rattle.names.specs.Scan.{before_break}
use Rattle.names.proofs.scan.before_break.Given as goal

abbrev pub invariant-loop-i : goal.invariant-loop-i
invariant-loop-i l = l.i ≤ before_break l.text
