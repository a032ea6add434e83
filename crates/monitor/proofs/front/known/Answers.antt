-- `known` meets its contract: each test is a row of the definition.
use Rattle.monitor.specs.Front.{front_checks, four_to_seven}
use Rattle.vocabulary.specs.Answer.{judge}
use borrow.Author.Tests.{eq-eqb, ne_eqb, le-leb, lt-leb}
use mathlib.Core.Path.{sym, ◌∙◌}
use Rattle.monitor.proofs.front.known.Goals as goal

pub returns-then-size-logins : goal.returns-then-size-logins
unfolding four_to_seven front_checks judge
returns-then-size-logins c =
    rw (ne_eqb _ _ c.if-size-logins.true)

pub returns-then-logins-from : goal.returns-then-logins-from
unfolding four_to_seven front_checks judge
returns-then-logins-from c =
    rw (eq-eqb _ _ c.if-size-logins.false, rw c.from.ensures at (le-leb _ _ c.if-logins-from.true))

pub returns-then-bad_persons : goal.returns-then-bad_persons
unfolding four_to_seven front_checks judge
returns-then-bad_persons c =
    rw (eq-eqb _ _ c.if-size-logins.false, rw c.from.ensures at (lt-leb _ _ c.if-logins-from.false), sym c.bad_persons.ensures ∙ c.if-bad_persons.true)

pub returns-then-folders-from : goal.returns-then-folders-from
unfolding four_to_seven front_checks judge
returns-then-folders-from c =
    rw (eq-eqb _ _ c.if-size-logins.false, rw c.from.ensures at (lt-leb _ _ c.if-logins-from.false), sym c.bad_persons.ensures ∙ c.if-bad_persons.false, rw c.from-2.ensures at (le-leb _ _ c.if-folders-from.true))

pub returns-then-asked-lt1 : goal.returns-then-asked-lt1
unfolding four_to_seven front_checks judge
returns-then-asked-lt1 c =
    rw (eq-eqb _ _ c.if-size-logins.false, rw c.from.ensures at (lt-leb _ _ c.if-logins-from.false), sym c.bad_persons.ensures ∙ c.if-bad_persons.false, rw c.from-2.ensures at (lt-leb _ _ c.if-folders-from.false), lt-leb _ _ c.if-asked-lt1.true)

pub returns-then-asked-gt4 : goal.returns-then-asked-gt4
unfolding four_to_seven front_checks judge
returns-then-asked-gt4 c =
    rw (eq-eqb _ _ c.if-size-logins.false, rw c.from.ensures at (lt-leb _ _ c.if-logins-from.false), sym c.bad_persons.ensures ∙ c.if-bad_persons.false, rw c.from-2.ensures at (lt-leb _ _ c.if-folders-from.false), le-leb _ _ c.if-asked-lt1.false, lt-leb _ _ c.if-asked-gt4.true)

pub returns : goal.returns
unfolding four_to_seven front_checks judge
returns c =
    rw (eq-eqb _ _ c.if-size-logins.false, rw c.from.ensures at (lt-leb _ _ c.if-logins-from.false), sym c.bad_persons.ensures ∙ c.if-bad_persons.false, rw c.from-2.ensures at (lt-leb _ _ c.if-folders-from.false), le-leb _ _ c.if-asked-lt1.false, le-leb _ _ c.if-asked-gt4.false)
