-- `lists_fit` meets its contract: the row has a cell for each folder just where the matrix has so many from its start on.
use Rattle.std.proofs.Common.{refl, length}
use Rattle.vocabulary.specs.Place.{row_at}
use Rattle.register.specs.Register.{register_of}
use Rattle.row_labels.proofs.Fitting.{lists-in}
use Rattle.row_labels.proofs.lists_fit.Goals as goal

pub returns : goal.returns
returns c =
    let row = c.args.row in
    let labels = c.args.labels in
    rw c.remaining.ensures
    (lists-in (register_of 0 labels.classes.now labels.clients.now) (row_at row.matrix.now row.start (length labels.classes.now)) row.matrix.now row.start refl)
