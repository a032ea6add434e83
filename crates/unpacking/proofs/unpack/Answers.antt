-- `unpack` meets its contract: each return is one law of the outcome.
use Rattle.unpacking.proofs.Outcomes.{unpack-unequal, unpack-unused, unpack-unpacked}
use borrow.Author.Rules.{rules}
use Rattle.unpacking.proofs.unpack.Goals as goal

pub returns-then-div_ceil-packed : goal.returns-then-div_ceil-packed
returns-then-div_ceil-packed c =
    unpack-unequal _ _ (search rules)

pub returns-then-unused_bits-ne0 : goal.returns-then-unused_bits-ne0
returns-then-unused_bits-ne0 c =
    unpack-unused _ _ (search rules) (search rules)

pub returns : goal.returns
returns c =
    unpack-unpacked _ _ (search rules) _ (search rules) c.write_cells.ensures
