-- A row that is lent: its cells, as they are when the function is called (document 01, 'The matrix').
use Rattle.std.specs.Prelude.{ℕ, List}
use denote.Triple.Both.{Both}
use Rattle.vocabulary.specs.Place.{row_at}
use Rattle.cells.specs.declared.Row.{Row}

abbrev pub row_lent : {X : Type 0} → Both Row X → (folders : ℕ) → List ℕ
row_lent row folders = row_at row.entry.matrix.now row.entry.start folders
