-- `beyond_in_halves` meets its contract: what is gathered says whether an entry that either half has passed is P or more, and the two halves have all.
use Rattle.std.proofs.Common.{◌+◌, ◌≡◌, eqb, leb, not, ◌||◌}
use Rattle.vocabulary.specs.Those.{those, some}
use Rattle.person_list.specs.PersonList.{person_of}
use Rattle.person_list.proofs.beyond_in_halves.Given as goal

abbrev pub invariant-loop-s : goal.invariant-loop-s
invariant-loop-s g l =
    not (eqb l.gathered 0)
    ≡ some (those (λ i. leb l.logins (person_of l.persons i) || leb l.logins (person_of l.persons (l.second + i))) l.s)
