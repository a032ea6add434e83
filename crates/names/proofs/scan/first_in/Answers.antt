-- `first_in` meets its contract. The invariant: `first` is the least place before i.
use Rattle.std.proofs.Common.{◌≡◌, ◌+◌, refl, get_or, ◌∙◌, sym, eq-eqb, ne_eqb}
use native.Mathlib.Numerals.{add-one}
use Rattle.names.specs.Scan.{least, by_break}
use Rattle.names.proofs.Passing.{by_break-true, by_break-false}
use Rattle.names.proofs.scan.first_in.Goals as goal
use Rattle.names.proofs.scan.first_in.Goals.{then-block-from-eq10, else-block-from-eq10}

pub loop-i-init : goal.loop-i-init
unfolding least
loop-i-init c = refl

pub loop-i-preserved : goal.loop-i-preserved
unfolding least
loop-i-preserved c =
    let block = c.args.block.now in
    let i = c.loop-i.i in
    let place : c.if-block-from-eq10.place ≡ by_break (get_or block i 0) i 255 =
    elim c.if-block-from-eq10.branch [
      | then-block-from-eq10 w ↦ w.place-is ∙ sym (by_break-true (get_or block i 0) i 255 (eq-eqb _ _ (rw c.from.ensures at w.if-block-from-eq10.true)))
      | else-block-from-eq10 w ↦ w.place-is ∙ sym (by_break-false (get_or block i 0) i 255 (ne_eqb _ _ (rw c.from.ensures at w.if-block-from-eq10.false)))
    ] in
    let next : c.min-first.result ≡ least block (i + 1) = rw (c.min-first.ensures, place, c.loop-i.invariant, add-one) refl in
    next
