-- `fits` meets its contract: the clients' length, then the pairs'.
use Rattle.register_pairs.specs.Pair.{pairs_fit}
use Rattle.row_marks.proofs.Rows.{row-fits}
use Rattle.row_marks.proofs.fits.Goals as goal

pub returns : goal.returns
unfolding pairs_fit
returns c = rw (c.pairs_fit.ensures, c.remaining.ensures, row-fits)
