-- `clashes_by` meets its contract: no mark, one of the client, or one of another, after which the earlier folders are searched.
use Rattle.std.proofs.Common.{sym, ◌∙◌, arith}
use borrow.Author.Tests.{eqb-true}
use Rattle.register_search.specs.Folders.{register_in}
use Rattle.register_search.proofs.Marks.{same-telling}
use Rattle.register_search.proofs.Later.{alone, told-step}
use Rattle.register_search.proofs.few.clashes_by.Goals as goal

pub returns-then-mark-eq0 : goal.returns-then-mark-eq0
returns-then-mark-eq0 c =
    sym (alone (register_in c.args.folders) c.args.f c.requires.1 (c.requires.3 c.if-mark-eq0.true))

pub returns-then-eq : goal.returns-then-eq
returns-then-eq c =
    c.clashes.ensures ∙ sym (told-step (register_in c.args.folders) c.args.f c.requires.1 c.args.mark (same-telling _ _ _ (omega (arith, c.if-mark-eq0.false)) (eqb-true _ _ (sym c.eq.ensures ∙ c.if-eq.true))) c.requires.2)
