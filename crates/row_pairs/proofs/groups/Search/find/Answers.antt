-- `find` meets its contract: where there is no such folder, `to` stands for the first.
use Rattle.std.proofs.Common.{arith, refl, sym, ◌∙◌}
use Rattle.vocabulary.specs.Those.{those}
use Rattle.vocabulary.proofs.Those.{first_absent}
use Rattle.vocabulary.proofs.Place.{placed-start}
use Rattle.row_pairs.proofs.groups.Search.find.Goals as goal

pub any-requires : goal.any-requires
unfolding those
any-requires c = (omega arith, c.requires, refl, placed-start _ _)

pub returns : goal.returns
returns c =
    first_absent _ _ _ (sym c.any.ensures ∙ c.if-any.false)
