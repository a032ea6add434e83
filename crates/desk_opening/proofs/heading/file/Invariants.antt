-- `file` meets its contract: what is stored, with the folders that are left at the loop's place, are the folders of the whole.
use Rattle.std.proofs.Common.{◌-◌, length, replicate}
use Rattle.desk_opening.proofs.Filed.{Partway}
use Rattle.desk_opening.proofs.heading.file.Given as goal

abbrev pub invariant-loop-label : goal.invariant-loop-label
invariant-loop-label l = Partway l.text l.fn.place (replicate 512 0) (replicate 512 0) l.classes l.clients l.folders l.at

abbrev pub decreases-loop-label : goal.decreases-loop-label
decreases-loop-label l = length l.text - l.at
