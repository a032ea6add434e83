-- `find` meets its contract: what the two lines say, one after the other.
use Rattle.names.proofs.Names.{name_shown-client, name_shown-house, name_shown-none}
use Rattle.names.proofs.find.Goals as goal

pub returns-then-own-ne0 : goal.returns-then-own-ne0
returns-then-own-ne0 c =
    name_shown-client _ _ _ c.line_span-own.ensures c.if-own-ne0.true

pub returns-then-line-ne0 : goal.returns-then-line-ne0
returns-then-line-ne0 c =
    name_shown-house _ _ _ c.line_span-own.ensures c.if-own-ne0.false c.line_span-line.ensures c.if-line-ne0.true

pub returns : goal.returns
returns c =
    name_shown-none _ _ _ c.line_span-own.ensures c.if-own-ne0.false c.line_span-line.ensures c.if-line-ne0.false
