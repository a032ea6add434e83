-- `any_lone_zero` meets its contract: the flag says whether a folder that the loop has passed has a lone 0.
use Rattle.std.proofs.Common.{◌≡◌}
use Rattle.vocabulary.specs.Those.{those, some}
use Rattle.register.specs.Register.{register_of, lone_zero}
use Rattle.register_check.proofs.zeros.any_lone_zero.Given as goal

abbrev pub invariant-loop-f : goal.invariant-loop-f
invariant-loop-f l = l.any ≡ some (those (lone_zero (register_of 0 l.labels.classes.now l.labels.clients.now)) l.f)
