-- `push_rest` meets its contract: what was printed at each turn are the numbers before its place, each in at most six bytes.
use Rattle.std.proofs.Common.{◌+◌, ◌*◌, ◌≤◌, ◌≡◌, ◌++◌, length, take}
use Rattle.text_lines.specs.Text.{spaced}
use Rattle.text_lines.proofs.text.Text.push_rest.Given as goal

abbrev pub invariant-loop-n : goal.invariant-loop-n
invariant-loop-n l = (length l.self ≤ length l.initial.self + 6 * l.n-index) × (l.self ≡ l.initial.self ++ spaced (take l.n-index l.numbers))
