-- `of` meets its contract: the pairs passed are listed.
use Rattle.std.proofs.Common.{arith, ◌∙◌, ◌<◌, length-set}
use Rattle.std.proofs.lemmas.List.{length-replicate}
use mathlib.Core.Bool.{Bool, false}
use Prim.Native.Nat.{ℕ}
use Rattle.row_marks.proofs.Opponents.{listed-none, listed_more}
use Rattle.row_marks.proofs.marking.Listing.of.Goals as goal

pub loop-i-init : goal.loop-i-init
loop-i-init c = (length-replicate {A = ℕ} 256 0, length-replicate {A = Bool} 256 false, listed-none _ _)

pub loop-i-preserved : goal.loop-i-preserved
loop-i-preserved c =
    let l = c.loop-i in
    let i = l.invariant in
    let few = c.args.pairs.few in
    let room : l.i < 256 = omega arith in (
      length-set _ _ _ ∙ i.0,
      length-set _ _ _ ∙ i.1,
      rw (c.other.ensures, c.names.ensures) (listed_more _ _ _ _ (omega (arith, i.0)) (omega (arith, i.1)) i.2),
    )
