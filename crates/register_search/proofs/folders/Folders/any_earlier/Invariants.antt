-- `any_earlier` meets its contract: the flag says whether `f` differs from a folder that the loop has passed.
use Rattle.std.proofs.Common.{◌≡◌}
use Rattle.vocabulary.specs.Those.{those, some}
use Rattle.register.specs.Register.{differs}
use Rattle.register_search.specs.Folders.{register_in}
use Rattle.register_search.proofs.folders.Folders.any_earlier.Given as goal

abbrev pub invariant-loop-g : goal.invariant-loop-g
invariant-loop-g l = l.any ≡ some (those (differs (register_in l.self) l.f) l.g)
