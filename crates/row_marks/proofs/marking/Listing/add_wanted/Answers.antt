-- `add_wanted` meets its contract: of the clients passed in each quarter, those that are wanted are in the set.
use Rattle.std.proofs.Common.{◌≡◌, ◌∙◌, ◌||◌, arith, ap, sym}
use mathlib.Core.Bool.{or_assoc, or-false}
use Rattle.vocabulary.specs.Those.{those}
use Rattle.vocabulary.proofs.Those.{some-those-suc}
use Rattle.row_marks.specs.Marks.{marked, wanted_at}
use Rattle.row_marks.proofs.Quarters.{some-those-quarters}
use Rattle.row_marks.proofs.marking.Listing.add_wanted.Goals as goal

pub loop-i-init : goal.loop-i-init
unfolding those
loop-i-init c x = sym (or-false _)

pub loop-i-preserved : goal.loop-i-preserved
loop-i-preserved c x =
    rw (c.add-in-loop-i-3.ensures x, c.add-in-loop-i-2.ensures x, c.add-in-loop-i.ensures x, c.add.ensures x, c.loop-i.invariant x, some-those-suc) (simp or_assoc)

pub returns : goal.returns
returns c x =
    let end : c.loop-i.i ≡ 64 = omega arith in
    (rw end at c.loop-i.invariant x) ∙ ap (λ b. marked c.args.set.now x || b) (some-those-quarters (wanted_at c.args.self.now x))
