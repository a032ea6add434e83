-- `any_beyond` meets its contract: what is gathered says whether an entry that the loop has passed is P or more.
use Rattle.std.proofs.Common.{◌≡◌, eqb, leb, not, take}
use Rattle.std.specs.List.{list_any}
use Rattle.person_list.proofs.any_beyond.Given as goal

abbrev pub invariant-loop-entry : goal.invariant-loop-entry
invariant-loop-entry l = not (eqb l.gathered 0) ≡ list_any (λ p. leb l.logins p) (take l.entry-index l.persons)
