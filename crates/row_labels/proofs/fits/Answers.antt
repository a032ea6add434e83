-- `fits` meets its contract: where the lists fit, the row has as many folders as the classes' list.
use Rattle.row_labels.proofs.Fitting.{fitting-by}
use Rattle.row_labels.proofs.fits.Goals as goal

pub returns : goal.returns
returns c =
    rw (c.lists_fit.ensures, c.from.ensures) (fitting-by _ _ _)
