-- `line_end` meets its contract: the first byte tells an empty line.
use mathlib.Core.Path.{sym}
use Rattle.names.proofs.Passing.{end-here, end-length}
use borrow.Author.Tests.{eq-eqb}
use borrow.Author.Rules.{rules}
use Rattle.names.proofs.scan.line_end.Goals as goal

pub returns-then-at-text : goal.returns-then-at-text
returns-then-at-text c =
    sym (end-length _ _ (search rules))

pub returns-then-text-at-eq10 : goal.returns-then-text-at-eq10
returns-then-text-at-eq10 c =
    sym (end-here _ _ (search rules) (eq-eqb _ _ c.if-text-at-eq10.true))
