-- `any_beyond` meets its contract: what is gathered says whether an entry that the loop has passed is P or more.
use Rattle.std.proofs.Common.{arith, get_or, leb}
use Rattle.std.proofs.lemmas.List.Folds.{list_any_more}
use Rattle.person_list.proofs.PersonList.{gathered_next}
use Rattle.person_list.proofs.any_beyond.Goals as goal

pub loop-entry-preserved : goal.loop-entry-preserved
loop-entry-preserved c =
    let a = c.args in
    let list = a.persons.now in
    let s = c.loop-entry.entry-index in
    rw (list_any_more (λ p. leb a.logins p) list s 0 (omega arith), ← c.loop-entry.invariant, c.saturating_sub-gathered.ensures)
    (gathered_next c.loop-entry.gathered (get_or list s 0) a.logins c.requires)
