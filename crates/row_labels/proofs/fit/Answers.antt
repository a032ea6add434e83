-- `fit` meets its contract: where the lists fit, they stand beside the row.
use Rattle.std.proofs.Common.{◌∙◌, sym, length, arith}
use Rattle.vocabulary.specs.Place.{row_at}
use Rattle.register.specs.Register.{register_of}
use Rattle.row_labels.proofs.Fitting.{lists-are}
use Rattle.row_labels.proofs.fit.Goals as goal

pub invariant_of-result : goal.invariant_of-result
invariant_of-result c =
    let row = c.args.row in
    let labels = c.args.labels in
    let p = lists-are (register_of 0 labels.classes.now labels.clients.now) (row_at row.matrix.now row.start (length labels.classes.now)) (sym c.lists_fit.ensures ∙ c.if-lists_fit.true) in
    record { alongside = p.0; few = omega (arith, p.1, p.0.0) }
