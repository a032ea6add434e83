-- `first_earlier` meets its contract: `f` differs from no folder that the loop has passed.
use Rattle.std.proofs.Common.{◌≡◌, []}
use Rattle.vocabulary.specs.Those.{those}
use Rattle.register.specs.Register.{differs}
use Rattle.register_search.specs.Folders.{register_in}
use Rattle.register_search.proofs.folders.Folders.first_earlier.Given as goal

abbrev pub invariant-loop-g : goal.invariant-loop-g
invariant-loop-g l = those (differs (register_in l.self) l.f) l.g ≡ []
