-- `first_later` meets its contract: one folder, many, or few.
use Rattle.register_search.proofs.Later.{later-one}
use Rattle.register_search.proofs.first_later.Goals as goal

pub returns-then-folders-le1 : goal.returns-then-folders-le1
returns-then-folders-le1 c =
    later-one _ c.if-folders-le1.true
