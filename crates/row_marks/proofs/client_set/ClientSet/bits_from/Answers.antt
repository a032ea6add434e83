-- `bits_from` meets its contract: the word is moved down to the client's bit.
use Rattle.row_marks.specs.Marks.{has_bit}
use Rattle.row_marks.proofs.client_set.ClientSet.bits_from.Goals as goal

pub returns : goal.returns
unfolding has_bit
returns c =
    rw c.word_of.ensures.0
