-- `list_slots` meets its contract: each folder that the loop has passed has its slot listed.
use Rattle.register_search.specs.Chains.{SlotsListed}
use Rattle.register_search.proofs.table.list_slots.Given as goal

abbrev pub invariant-loop-f : goal.invariant-loop-f
invariant-loop-f l = SlotsListed l.folders.labels.clients.now l.slots l.f
