-- `bad_pairs` meets its contract: sizes first, then the pairs.
use Rattle.std.proofs.Common.{rules}
use Rattle.register.specs.Register.{bad_pairs}
use Rattle.register_pairs.proofs.bad_pairs.Goals as goal

pub returns-then-pairs : goal.returns-then-pairs
unfolding bad_pairs
returns-then-pairs c = search rules

pub returns : goal.returns
unfolding bad_pairs
returns c = search rules
