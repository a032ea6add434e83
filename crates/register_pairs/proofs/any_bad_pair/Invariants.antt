-- `any_bad_pair` meets its contract: the flag says whether a pair that the loop has passed is at fault.
use Rattle.std.proofs.Common.{◌≡◌, [], true}
use Rattle.vocabulary.specs.Those.{those, some}
use Rattle.register.specs.Register.{register_by, bad_pair}
use Rattle.register_pairs.proofs.any_bad_pair.Given as goal

abbrev pub invariant-loop-i : goal.invariant-loop-i
invariant-loop-i l = l.any ≡ some (those (bad_pair (register_by 0 [] [] true l.pairs.firsts.now l.pairs.seconds.now)) l.i)
