-- `line_span` meets its contract: the line's start, and from there its end.
use Rattle.names.proofs.Lines.{line-measured, past-most}
use Rattle.names.proofs.line_span.Goals as goal

pub line_end-end-requires : goal.line_end-end-requires
line_end-end-requires c =
    rw c.line_start-start.ensures (past-most _ _)

pub returns : goal.returns
returns c =
    line-measured _ _ c.line_start-start.ensures c.line_end-end.ensures
