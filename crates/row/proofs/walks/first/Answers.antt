-- `first` meets its contract: no folder that the walk has passed passes the test.
use Rattle.std.proofs.Common.{refl, sym, ◌∙◌, arith}
use Rattle.vocabulary.specs.Those.{those}
use Rattle.vocabulary.proofs.Those.{those-none}
use Rattle.vocabulary.proofs.Place.{placed-start, placed-next, cell-placed}
use Rattle.row.proofs.Found.{found-at, found-none}
use Rattle.row.proofs.walks.first.Goals as goal

pub loop-f-init : goal.loop-f-init
unfolding those
loop-f-init g c = (c.requires, placed-start _ _, λ p tells. refl)

pub returns-then-test : goal.returns-then-test
returns-then-test g c =
    let i = c.loop-f.invariant in
    let t = c.loop-f-test.true in
    λ p tells. found-at _ _ _ (i.2 p tells) (rw (c.new-label.ensures, cell-placed _ _ _ _ _ i.1 t) at (sym (tells _ _ _ _ c.test.ensures) ∙ c.if-test.true)) t

pub loop-f-preserved : goal.loop-f-preserved
loop-f-preserved g c =
    let i = c.loop-f.invariant in (
      i.0,
      placed-next _ _ _ _ i.1,
      λ p tells. those-none _ _ (i.2 p tells) (rw (c.new-label.ensures, cell-placed _ _ _ _ _ i.1 c.loop-f-test.true) at (sym (tells _ _ _ _ c.test.ensures) ∙ c.if-test.false)),
    )

pub returns : goal.returns
returns g c =
    λ p tells. found-none _ _ _ (c.loop-f.invariant.2 p tells) (omega arith)
