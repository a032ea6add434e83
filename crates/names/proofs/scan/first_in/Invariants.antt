-- `first_in` meets its contract. The invariant: `first` is the least place before i.
use Rattle.std.proofs.Common.{◌≡◌}
use Rattle.names.specs.Scan.{least}
use Rattle.names.proofs.scan.first_in.Given as goal

abbrev pub invariant-loop-i : goal.invariant-loop-i
invariant-loop-i l = l.first ≡ least l.block l.i
