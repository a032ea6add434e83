-- A row that is lent beside labels: it has a folder for each class (document 01, 'The matrix').
use Rattle.std.specs.Prelude.{ℕ, List, length}
use denote.Triple.Both.{Both}
use Rattle.vocabulary.specs.Place.{row_at}
use Rattle.cells.specs.declared.Row.{Row}
use Rattle.register.specs.declared.Labels.{Labels}

abbrev pub row_beside : {X Y : Type 0} → Both Row X → Both Labels Y → List ℕ
row_beside row labels = row_at row.entry.matrix.now row.entry.start (length labels.entry.classes.now)
