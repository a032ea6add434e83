-- `value_of` meets its contract: what was made at each turn is the number of the digits before it, and below its power of 10.
use Rattle.std.proofs.Common.{◌+◌, ◌*◌, ◌^◌, ◌≤◌, ◌≡◌, take}
use Rattle.numerals.specs.Numbers.{value_after}
use Rattle.numerals.proofs.value_of.Given as goal

abbrev pub invariant-loop-digit : goal.invariant-loop-digit
invariant-loop-digit l = (l.value + 23 ≤ 23 * 10 ^ l.digit-index) × (l.value ≡ value_after 0 (take l.digit-index l.digits))
