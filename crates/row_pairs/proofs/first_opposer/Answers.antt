-- `first_opposer` meets its contract: lists that do not fit, no opponent, many of them, or few.
use Rattle.std.proofs.Common.{sym, ◌∙◌, true, []}
use Rattle.register.specs.Register.{register_by}
use Rattle.row_marks.proofs.Opponents.{first-unfitted}
use Rattle.row_pairs.proofs.Opposers.{first-opponents, first-unnamed}
use Rattle.row_pairs.proofs.first_opposer.Goals as goal

pub returns-in_default : goal.returns-in_default
returns-in_default c =
    c.length.ensures ∙ first-unfitted _ _ _ (sym c.in_default.ensures.fits)

pub returns-then-count-eq0 : goal.returns-then-count-eq0
returns-then-count-eq0 c =
    let a = c.args in
    let fit = c.in-Some.ensures in
    let none = sym c.count_named-count.ensures ∙ c.if-count-eq0.true in
    c.length-then-count-eq0.ensures ∙ first-unnamed (register_by 0 [] a.clients.now true a.pairs.firsts.now a.pairs.seconds.now) _ _ (sym fit.fits) (rw fit.kept.2 at none)

pub returns : goal.returns
returns c =
    let a = c.args in
    let fit = c.in-Some.ensures in
    let asked = register_by 0 [] a.clients.now true a.pairs.firsts.now a.pairs.seconds.now in
    rw (c.first_among.ensures, c.list_opponents.ensures, fit.kept.0, fit.kept.1, fit.kept.2) (first-opponents asked _ _ (sym fit.fits))
