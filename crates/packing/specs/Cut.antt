-- Internal: what the loops have done, and what they are given. No rule of document 01 stands here.
use Rattle.std.specs.Prelude.{ℕ, ◌≤◌, List, ◌++◌, get_or, drop}
use Rattle.packing.specs.Tabulate.{tabulate}

-- Every cell is 0 to 3.
abbrev pub AllCells : List ℕ → Type 0
AllCells cells = (i : ℕ) → get_or cells i 0 ≤ 3

-- A list whose first n places are filled with the values of f.
unfoldable pub filled : (ℕ → ℕ) → ℕ → List ℕ → List ℕ
filled f n l = tabulate f n ++ drop n l
