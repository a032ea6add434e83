-- `last_of_client` meets its contract: what the walk has passed is not of the client, and each step goes down the slot.
use Rattle.std.proofs.Common.{◌≡◌, sym, ◌∙◌, arith}
use Rattle.register_search.proofs.Chains.{walk_start, walk-next, walk-found, walk_end, walk-falls}
use Rattle.register_search.proofs.table.Table.last_of_client.Goals as goal

pub loop-past-init : goal.loop-past-init
loop-past-init c =
    let p = c.requires in
    rw (c.from-past.ensures, p.0) (walk_start _ _ _ _ _ p.2)

pub returns-then-eq : goal.returns-then-eq
returns-then-eq c =
    walk-found _ _ _ _ c.loop-past.invariant c.loop-past-test.true (sym c.eq.ensures ∙ c.if-eq.true)

pub loop-past-smaller : goal.loop-past-smaller
loop-past-smaller c =
    rw c.from-past-in-loop-past.ensures (walk-falls _ _ _ _ _ c.requires.2 _ c.loop-past.invariant c.loop-past-test.true)

pub loop-past-preserved : goal.loop-past-preserved
loop-past-preserved c =
    rw c.from-past-in-loop-past.ensures (walk-next _ _ _ _ _ c.requires.2 _ c.loop-past.invariant c.loop-past-test.true (sym c.eq.ensures ∙ c.if-eq.false))

pub returns : goal.returns
returns c =
    let z : c.loop-past.past ≡ 0 = omega arith in sym z ∙ walk_end _ _ _ _ c.loop-past.invariant c.loop-past-test.false
