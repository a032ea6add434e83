-- `new` meets its contract: no word has a bit.
use Rattle.row_marks.proofs.Marks.{marked-none}
use Rattle.row_marks.proofs.client_set.ClientSet.new.Goals as goal

pub returns : goal.returns
returns c = marked-none
