-- `bad_persons` meets its contract: the length first, then the entries.
use Rattle.std.proofs.Common.{arith, length, ne_eqb, sym}
use Rattle.person_list.specs.PersonList.{bad_persons}
use Rattle.person_list.proofs.PersonList.{person-entry, judged-entries, list-passes}
use Rattle.person_list.proofs.bad_persons.Goals as goal

pub returns-then-persons-logins : goal.returns-then-persons-logins
unfolding bad_persons
returns-then-persons-logins c =
    let a = c.args in
    rw (ne_eqb (length a.persons.now) a.logins c.if-persons-logins.true)

pub returns-then-logins-lt8 : goal.returns-then-logins-lt8
returns-then-logins-lt8 c = judged-entries _ _ c.if-persons-logins.false c.seek_beyond.ensures

pub returns-then-logins-le16 : goal.returns-then-logins-le16
returns-then-logins-le16 c = judged-entries _ _ c.if-persons-logins.false c.beyond_in_halves.ensures

pub returns-then-logins-le32 : goal.returns-then-logins-le32
returns-then-logins-le32 c = judged-entries _ _ c.if-persons-logins.false c.beyond_in_halves-then-logins-le32.ensures

pub returns-then-logins-le64 : goal.returns-then-logins-le64
returns-then-logins-le64 c = judged-entries _ _ c.if-persons-logins.false c.beyond_in_halves-then-logins-le64.ensures

pub returns-then-logins-le128 : goal.returns-then-logins-le128
returns-then-logins-le128 c = judged-entries _ _ c.if-persons-logins.false c.beyond_in_halves-then-logins-le128.ensures

pub returns-then-logins-gt65535 : goal.returns-then-logins-gt65535
returns-then-logins-gt65535 c =
    let persons = c.args.persons.now in
    sym
    (list-passes c.args.logins persons c.if-persons-logins.false
    (λ s h. rw (person-entry persons s (omega arith)) (omega (arith, c.type_inv.persons s))))

pub returns : goal.returns
returns c = judged-entries _ _ c.if-persons-logins.false c.any_beyond.ensures
