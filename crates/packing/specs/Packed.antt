-- The packed form of a list of cells (document 01, 'The matrix').
use Rattle.std.specs.Prelude.{ℕ, ◌+◌, ◌*◌, ◌/◌, List, length, get_or}
use Rattle.packing.specs.Tabulate.{tabulate}

-- 'Length one quarter of the cells rounded up.'
abbrev pub quarter : ℕ → ℕ
quarter n = (n + 3) / 4

-- 'Four cells in a byte, first cell in the lowest two bits.'
abbrev pub byte_of : ℕ → ℕ → ℕ → ℕ → ℕ
byte_of a b c d = a + 4 * b + 16 * c + 64 * d

-- Byte k of the packed form. A place past the last cell counts as 0: 'unused bits of the last byte 0'.
abbrev pub byte_at : List ℕ → ℕ → ℕ
byte_at cells k = byte_of (get_or cells (4 * k) 0) (get_or cells (4 * k + 1) 0) (get_or cells (4 * k + 2) 0) (get_or cells (4 * k + 3) 0)

-- The packed form of a list of cells.
unfoldable pub packed : List ℕ → List ℕ
packed cells = tabulate (byte_at cells) (quarter (length cells))
