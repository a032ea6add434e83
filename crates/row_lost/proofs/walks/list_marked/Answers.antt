-- `list_marked` meets its contract. The invariant: what is listed so far are the marked places that the walk has passed.
use Rattle.std.proofs.Common.{refl, arith}
use lib.ListN.{length-set}
use Rattle.vocabulary.specs.Those.{those}
use Rattle.vocabulary.proofs.Bools.{bool_byte-most}
use Rattle.row_lost.specs.Cut.{marked}
use Rattle.row_lost.proofs.Listed.{stored-none, stored_next}
use Rattle.row_lost.proofs.walks.list_marked.Goals as goal

pub loop-f-init : goal.loop-f-init
unfolding those
loop-f-init c = (refl, omega arith, stored-none refl)

pub loop-f-preserved : goal.loop-f-preserved
loop-f-preserved c =
    let l = c.loop-f in
    let most = bool_byte-most (marked c.args.marks.now l.f) in
    (rw length-set l.invariant.0, omega (arith, most, c.from-count.ensures), rw c.from-count.ensures (stored_next _ (marked c.args.marks.now) l.f l.invariant.2))
