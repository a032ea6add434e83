-- `breaks_in` meets its contract. The invariant: n, and the bytes 10 that come next, are all of them.
use Rattle.std.proofs.Common.{◌+◌, ◌≤◌, ◌≡◌, drop}
use Rattle.line_numbers.specs.LineNumber.{ended}
use Rattle.names.proofs.scan.breaks_in.Given as goal

abbrev pub invariant-loop-b : goal.invariant-loop-b
invariant-loop-b l = (l.n ≤ l.b-index) × (l.n + ended (drop l.b-index l.block) ≡ ended l.block)
