-- `from_folders` meets its contract: the folders, then what follows them.
use Rattle.std.proofs.Common.{◌∙◌, ap, refl}
use Rattle.desk_opening.specs.declared.heading.Filing.{Filing}
use Rattle.desk_opening.specs.Folders.{filed_at}
use Rattle.desk_opening.specs.Opened.{opened_on}
use Rattle.desk_opening.proofs.Filed.{filed-even}
use Rattle.desk_opening.proofs.heading.from_folders.Goals as goal

pub checked-requires : goal.checked-requires
checked-requires c = (filed_at c.args.text.now c.args.place, record { even = filed-even c.args.text.now c.args.place; kept = c.file-filing.ensures })

pub returns-then-filing_ends : goal.returns-then-filing_ends
unfolding opened_on
returns-then-filing_ends c =
    let a = c.args in
    let end = ap (λ (x : Filing). x.place) c.file-filing.ensures in
    c.checked.ensures (filed_at a.text.now a.place) (record { even = filed-even a.text.now a.place; kept = c.file-filing.ensures }) ∙ rw (← end, ← c.filing_ends.ensures, c.if-filing_ends.true) refl

pub returns : goal.returns
unfolding opened_on
returns c =
    let there = ap (λ (x : Filing). x.place) c.file-filing.ensures in
    rw (c.bad_line.ensures, c.line_number.ensures, ← there, ← c.filing_ends.ensures, c.if-filing_ends.false) refl
