-- Internal: the row's rule cut as the code is cut, cell by cell. No rule of document 01 stands here.
use Rattle.std.specs.Prelude.{ℕ, List, false}
use Rattle.ids.specs.declared.Label.{Label}
use Rattle.row_labels.specs.Fitting.{label_at}
use Rattle.cell_rules.specs.Cut.{cell_left}

-- What a grant makes of the cell c at a place of the row where it takes write rights back and enters none.
abbrev pub taken_at : List ℕ → List ℕ → Label → ℕ → ℕ → ℕ → ℕ
taken_at classes clients o kind f c = cell_left c (label_at classes clients f) o false kind
