-- `first` meets its contract: no folder of the turns that the walk has passed is found.
use Rattle.std.proofs.Common.{refl, ◌+◌, arith}
use Rattle.vocabulary.specs.Those.{those}
use Rattle.vocabulary.proofs.Place.{placed-start, placed_on}
use Rattle.row_marks.specs.Walk.{found}
use Rattle.row_marks.proofs.Threes.{those-none-three}
use Rattle.row_marks.proofs.walk.Walk.first.Goals as goal

pub loop-f-init : goal.loop-f-init
unfolding those
loop-f-init c = (omega arith, refl, placed-start _ _, refl)

pub loop-f-preserved : goal.loop-f-preserved
loop-f-preserved c =
    let i = c.loop-f.invariant in
    let n = c.loop-f.f in
    let p = found c.args.self in
    let none1 = those-none-three p n (n + 3) (omega arith) i.3 (rw (← c.found_three.ensures) c.if-found_three.false) in
    let none2 = those-none-three p (n + 3) (n + 6) (omega arith) none1 (rw (← c.found_three-else-found_three.ensures) c.if-found_three-2.false) in
    let none3 = those-none-three p (n + 6) (n + 9) (omega arith) none2 (rw (← c.found_three-else-found_three-2.ensures) c.if-found_three-3.false) in
    let none4 = those-none-three p (n + 9) (n + 12) (omega arith) none3 (rw (← c.found_three-else-found_three-3.ensures) c.if-found_three-4.false) in
    let none5 = those-none-three p (n + 12) (n + 15) (omega arith) none4 (rw (← c.found_three-else-found_three-4.ensures) c.if-found_three-5.false) in
    let none6 = those-none-three p (n + 15) (n + 18) (omega arith) none5 (rw (← c.found_three-else-found_three-5.ensures) c.if-found_three-6.false) in
    let none7 = those-none-three p (n + 18) (n + 21) (omega arith) none6 (rw (← c.found_three-else-found_three-6.ensures) c.if-found_three-7.false) in
    let none8 = those-none-three p (n + 21) (n + 24) (omega arith) none7 (rw (← c.found_three-else-found_three-7.ensures) c.if-found_three-8.false) in
    (omega (arith, c.loop-f-test.true, i.0, i.1), omega (arith, i.1), placed_on _ _ _ _ 24 i.2, none8)
