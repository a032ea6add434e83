-- `walk_few` meets its contract: no folder that the loop has passed differs from an earlier one, and each has left its mark.
use Rattle.register_search.specs.Folders.{register_in}
use Rattle.register_search.specs.Marks.{Clean, Marked}
use Rattle.register_search.proofs.few.walk_few.Given as goal

abbrev pub invariant-loop-f : goal.invariant-loop-f
invariant-loop-f l = Clean (register_in l.folders) l.f × Marked l.folders.labels.clients.now l.marks l.f
