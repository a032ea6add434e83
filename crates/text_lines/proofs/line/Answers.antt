-- `line` meets its contract: word, number and rest are printed one after the other.
use Rattle.std.proofs.Common.{arith, ◌≡◌, ◌+◌, length, length-append, refl}
use Rattle.text_lines.specs.Text.{decimal, printed}
use Rattle.text_lines.proofs.Decimal.{decimal-64}
use Rattle.text_lines.proofs.Printed.{bounded-whole}
use Rattle.text_lines.proofs.line.Goals as goal

pub push_number-requires : goal.push_number-requires
push_number-requires c =
    rw (c.push_word.ensures, c.new-text.ensures) (omega (arith, decimal-64 c.args.number (omega arith)))

pub push_rest-requires : goal.push_rest-requires
push_rest-requires c =
    rw (c.push_number.ensures, c.push_word.ensures, c.new-text.ensures, length-append) (omega (arith, decimal-64 c.args.number (omega arith)))

pub push-requires : goal.push-requires
push-requires c =
    let before : length c.push_number.new.self ≡ length c.args.word.now + length (decimal c.args.number) =
    rw (c.push_number.ensures, c.push_word.ensures, c.new-text.ensures, length-append) refl in
    omega (arith, c.push_rest.ensures.1, before, decimal-64 c.args.number (omega arith))

pub returns : goal.returns
unfolding printed
returns c =
    rw (bounded-whole c.args.word.now c.args.number c.args.rest.now (omega arith) (omega arith), c.push.ensures, c.push_rest.ensures.0, c.push_number.ensures, c.push_word.ensures, c.new-text.ensures)
    refl
