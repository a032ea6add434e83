-- `fit` meets its contract: where the lists fit, they have the lengths that the types say.
use Rattle.std.proofs.Common.{◌∙◌, sym}
use Rattle.row_marks.proofs.Opponents.{fitted-lengths}
use Rattle.row_marks.proofs.fit.Goals as goal

pub invariant_of-result-then-fits : goal.invariant_of-result-then-fits
invariant_of-result-then-fits c =
    let p = fitted-lengths _ _ (sym c.fits.ensures ∙ c.if-fits.true) in
    record { even = p.1.0; few = p.1.1 }
