-- `search_from` meets its contract: no folder that the loop has passed differs from an earlier one.
use Rattle.register_search.specs.Folders.{register_in}
use Rattle.register_search.specs.Marks.{Clean}
use Rattle.register_search.proofs.folders.Folders.search_from.Given as goal

abbrev pub invariant-loop-f : goal.invariant-loop-f
invariant-loop-f l = Clean (register_in l.self) l.f
