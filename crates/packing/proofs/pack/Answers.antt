-- `pack` meets its contract: each return is one law of the outcome.
use Rattle.packing.proofs.Outcomes.{all-cells, pack-unequal, pack-above, pack-packed}
use Rattle.cells.proofs.Above.{above-none}
use borrow.Author.Rules.{rules}
use Rattle.packing.proofs.pack.Goals as goal

pub returns-then-packed-div_ceil : goal.returns-then-packed-div_ceil
returns-then-packed-div_ceil c =
    pack-unequal _ _ (search rules)

pub returns-then-above-cells : goal.returns-then-above-cells
returns-then-above-cells c =
    pack-above _ _ (search rules) _ c.first_above-above.ensures c.if-above-cells.true

pub write_bytes-requires : goal.write_bytes-requires
write_bytes-requires c =
    (search rules, all-cells _ (above-none _ (rw c.first_above-above.ensures at c.if-above-cells.false)))

pub returns : goal.returns
returns c =
    pack-packed _ _ (search rules) _ (above-none _ (rw c.first_above-above.ensures at c.if-above-cells.false)) c.write_bytes.ensures
