-- `decide_unfit` meets its contract: rows 1, 8 and 9 of the table, then 1.
use Rattle.row_decision.proofs.Rows.{judged-long, judged-large, judged-end, judged-past}
use mathlib.Core.Path.{refl}
use Rattle.row_decision.proofs.decide_unfit.Goals as goal

pub returns-then-length-gt512 : goal.returns-then-length-gt512
returns-then-length-gt512 c =
    judged-long _ _ _ _ (rw c.length-length.ensures at c.if-length-gt512.true)

pub returns-then-large-length : goal.returns-then-large-length
returns-then-large-length c =
    let n = c.length-length.ensures in
    judged-large _ _ _ _ (rw n at c.if-length-gt512.false) _ c.first_above-large.ensures (rw n at c.if-large-length.true)

pub returns-then-tail-size : goal.returns-then-tail-size
returns-then-tail-size c =
    let n = c.length-length.ensures in
    judged-past _ _ _ _ (rw n at c.if-length-gt512.false) c.first_above-large.ensures (rw n at c.if-large-length.false) c.if-tail-size.true refl

pub returns : goal.returns
returns c =
    let n = c.length-length.ensures in
    judged-end _ _ _ _ (rw n at c.if-length-gt512.false) c.first_above-large.ensures (rw n at c.if-large-length.false) c.if-tail-size.false
