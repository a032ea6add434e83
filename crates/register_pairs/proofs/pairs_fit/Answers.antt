-- `pairs_fit` meets its contract, test by test.
use Rattle.std.proofs.Common.{rules}
use Rattle.register_pairs.specs.Pair.{pairs_fit}
use Rattle.register_pairs.proofs.pairs_fit.Goals as goal

pub returns-then-pairs : goal.returns-then-pairs
unfolding pairs_fit
returns-then-pairs c = search rules

pub returns-else-pairs : goal.returns-else-pairs
unfolding pairs_fit
returns-else-pairs c = search rules
