-- `add_wanted` meets its contract: of the clients passed in each quarter, those that are wanted are in the set.
use Rattle.std.proofs.Common.{ℕ, ◌≡◌, ◌||◌}
use Rattle.vocabulary.specs.Those.{those, some}
use Rattle.row_marks.specs.Marks.{marked, wanted_at}
use Rattle.row_marks.proofs.Quarters.{in_quarters}
use Rattle.row_marks.proofs.marking.Listing.add_wanted.Given as goal

abbrev pub invariant-loop-i : goal.invariant-loop-i
invariant-loop-i l = (x : ℕ) → marked l.set x ≡ (marked l.initial.set x || some (those (in_quarters (wanted_at l.self x)) l.i))
