-- `walk_later` meets its contract: no folder that the loop has passed differs from an earlier one, and the table holds them all.
use Rattle.register_search.specs.Folders.{register_in}
use Rattle.register_search.specs.Marks.{Clean}
use Rattle.register_search.specs.Chains.{Chained}
use Rattle.register_search.proofs.table.walk_later.Given as goal

abbrev pub invariant-loop-f : goal.invariant-loop-f
invariant-loop-f l = Clean (register_in l.folders) l.f × Chained l.folders.labels.clients.now l.table.heads l.table.nexts l.f
