-- `last_of_client` meets its contract: what the walk has passed is not of the client, and each step goes down the slot.
use Rattle.register_search.proofs.Chains.{Walking}
use Rattle.register_search.proofs.table.Table.last_of_client.Given as goal

abbrev pub invariant-loop-past : goal.invariant-loop-past
invariant-loop-past l = Walking l.folders.labels.clients.now l.client.0 l.f l.past

abbrev pub decreases-loop-past : goal.decreases-loop-past
decreases-loop-past l = l.past
