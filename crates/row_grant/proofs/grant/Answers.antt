-- `grant` meets its contract: the matrix with the row that the rules say where lists and folder fit, the matrix as it was elsewhere.
use Rattle.std.proofs.Common.{sym, ◌∙◌}
use Rattle.row_labels.proofs.Fitting.{fits-are}
use Rattle.row_grant.proofs.Granted.{unfit-left}
use Rattle.row_grant.proofs.Entered.{taken-entered}
use Rattle.row_grant.proofs.grant.Goals as goal

pub returns-then-not-fits : goal.returns-then-not-fits
returns-then-not-fits c =
    let a = c.args in
    unfit-left _ a.matrix.now a.start _ _ (sym c.fits.ensures ∙ c.if-not-fits.true)

pub take_back-requires : goal.take_back-requires
take_back-requires c =
    (fits-are _ _ _ (sym c.fits.ensures ∙ c.if-not-fits.false)).0

pub returns : goal.returns
returns c =
    let a = c.args in
    c.enter.ensures ∙ rw c.take_back.ensures (taken-entered _ a.matrix.now a.start _ _ (sym c.fits.ensures ∙ c.if-not-fits.false) _ c.label_of-o.ensures)
