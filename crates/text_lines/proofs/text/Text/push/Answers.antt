-- `push` meets its contract: the text with the byte at its end, and zeros after it.
use Rattle.std.proofs.Common.{arith, ◌<◌}
use Rattle.std.proofs.lemmas.List.{length-take-le}
use Rattle.text_lines.proofs.Printed.{stored-more}
use Rattle.text_lines.proofs.text.Text.push.Goals as goal

pub invariant_of-self : goal.invariant_of-self
invariant_of-self c =
    let room : c.self.inside.len < 4096 = rw (← c.self.view_is, length-take-le c.self.inside.len c.self.inside.bytes (omega (arith, c.self.told, c.self.invariant.0))) at c.requires in
    (omega arith, stored-more c.self.inside.bytes c.self.inside.len c.args.byte (omega (arith, c.self.told)) c.self.invariant.1)
