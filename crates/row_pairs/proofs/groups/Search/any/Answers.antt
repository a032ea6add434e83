-- `any` meets its contract: the flag says whether a folder that the loop has passed is readable and of one of the four.
use Rattle.std.proofs.Common.{◌≡◌, ap, ◌∙◌, arith}
use Rattle.vocabulary.specs.Those.{those, some}
use Rattle.vocabulary.proofs.Those.{some-those-suc}
use Rattle.vocabulary.proofs.Place.{placed-next}
use Rattle.row_pairs.specs.Among.{found}
use Rattle.row_pairs.proofs.groups.Search.any.Goals as goal

pub loop-f-init : goal.loop-f-init
loop-f-init c = (c.requires.3, rw c.requires.2)

pub loop-f-preserved : goal.loop-f-preserved
loop-f-preserved c =
    let i = c.loop-f.invariant in
    (placed-next _ _ _ _ i.0, rw (some-those-suc, c.found-seen.ensures, i.1))

pub returns : goal.returns
returns c =
    let end : c.loop-f.f ≡ c.args.to = omega arith in
    c.loop-f.invariant.1 ∙ ap (λ n. some (those (found c.args.self) n)) end
