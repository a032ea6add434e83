-- `first_opposer` meets its contract: the row beside the clients' list is that beside the classes', and its length stands for none.
use Rattle.std.proofs.Common.{sym, ◌∙◌, ◌≡◌, length, arith}
use Rattle.row.proofs.Cut.{opposer-found, opposer-none}
use Rattle.row.proofs.first_opposer.Goals as goal

pub returns-then-first-labels : goal.returns-then-first-labels
returns-then-first-labels c =
    let beside = c.args.folders.alongside in
    let even : length c.args.folders.labels.clients.now ≡ length c.args.folders.labels.classes.now = beside.1 ∙ sym beside.0 in
    opposer-found _ _ _ (rw even at c.first_opposer-first.ensures) (omega (arith, beside))

pub returns : goal.returns
returns c =
    let beside = c.args.folders.alongside in
    let even : length c.args.folders.labels.clients.now ≡ length c.args.folders.labels.classes.now = beside.1 ∙ sym beside.0 in
    opposer-none _ _ _ (rw even at c.first_opposer-first.ensures) (omega (arith, beside))
