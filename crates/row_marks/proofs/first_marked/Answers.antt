-- `first_marked` meets its contract: lists that do not fit, or the walk over a row whose opponents are marked.
use Rattle.std.proofs.Common.{length, sym, ◌≡◌, ◌∙◌, [], true}
use Rattle.vocabulary.specs.Place.{row_at}
use Rattle.row_marks.specs.Walk.{cells_of}
use Rattle.register.specs.Register.{register_by}
use Rattle.row_marks.proofs.Opponents.{first-fitted, first-unfitted}
use Rattle.row_marks.proofs.first_marked.Goals as goal

pub returns-in_default : goal.returns-in_default
returns-in_default c =
    c.length.ensures ∙ first-unfitted _ _ _ (sym c.in_default.ensures.fits)

pub returns : goal.returns
returns c =
    let a = c.args in
    let fit = c.in-Some.ensures in
    let beside = c.in-Some.beside in
    let cells : cells_of beside ≡ row_at a.row.matrix.now a.row.start (length a.clients.now) = rw (fit.kept.0, fit.kept.1) in
    let clients : beside.clients.now ≡ a.clients.now = rw fit.kept.1 in
    c.first.ensures
    ∙ first-fitted (register_by 0 [] a.clients.now true a.pairs.firsts.now a.pairs.seconds.now) _ beside _ _ cells clients (sym fit.fits)
    (λ x. rw (fit.kept.2, c.new-marks.ensures x) at (c.add_opponents.ensures x))
