-- `enter` meets its contract: the folder heads its slot.
use native.Mathlib.Omega.{arith}
use Rattle.register_search.proofs.Chains.{chained_more}
use Rattle.register_search.proofs.table.Table.enter.Goals as goal

pub returns : goal.returns
returns c =
    let p = c.requires in
    rw (c.link.ensures, p.0) (chained_more _ _ _ _ (omega arith) p.2)
