-- The cells of a packed form (document 01, 'The matrix').
use Rattle.std.specs.Prelude.{ℕ, ◌*◌, ◌/◌, ◌%◌, ◌^◌, List, get_or}
use Rattle.packing.specs.Tabulate.{tabulate}

-- What a byte has from its cell j on, two bits a cell.
abbrev pub from : ℕ → ℕ → ℕ
from b j = b / 2 ^ (2 * j)

-- The cell that a packed form has at place i.
abbrev pub cell_at : List ℕ → ℕ → ℕ
cell_at bytes i = from (get_or bytes (i / 4) 0) (i % 4) % 4

-- The n cells of a packed form.
unfoldable pub unpacked : ℕ → List ℕ → List ℕ
unpacked n bytes = tabulate (cell_at bytes) n

-- The unused bits of the last byte, as a number, in a packed form of n cells. (Where the lengths match and n is a multiple of 4, no byte has
-- place n / 4, and there are none.)
abbrev pub unused : ℕ → List ℕ → ℕ
unused n bytes = from (get_or bytes (n / 4) 0) (n % 4)
