-- `push_word` meets its contract: what was printed at each turn are the bytes before its place.
use Rattle.std.proofs.Common.{◌≡◌, ◌++◌, take}
use Rattle.text_lines.proofs.text.Text.push_word.Given as goal

abbrev pub invariant-loop-byte : goal.invariant-loop-byte
invariant-loop-byte l = l.self ≡ l.initial.self ++ take l.byte-index l.word
