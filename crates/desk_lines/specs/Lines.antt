-- The lines that the desk reads (document 01, 'The desk program').
use Rattle.std.specs.Prelude.{ℕ, suc, cond, List, eqb, ltb, Option, Some, None}
use Rattle.vocabulary.specs.Parsed.{Parsed, got, refused, ◌>>=◌}
use Rattle.numerals.specs.Numbers.{byte_at, ill_formed, number_at}
use Rattle.desk_lines.specs.declared.Line as declared
use Rattle.desk_lines.specs.declared.Line.TheVariants.{Logins, Folder, Request}

-- ---- the parts of a line

-- This byte at a place, and the place after it.
unfoldable pub expected : ℕ → List ℕ → ℕ → Parsed (ℕ × ℕ)
expected b text place = cond (eqb (byte_at text place) b) (got (b, suc place)) ill_formed

-- One space and a number.
unfoldable pub part_at : List ℕ → ℕ → Parsed (ℕ × ℕ)
part_at text place = do
  (_, at) ← expected 32 text place
  number_at text at

-- One space, a number and the line's end, and the place after it.
unfoldable pub last_at : List ℕ → ℕ → Parsed (ℕ × ℕ)
last_at text place = do
  (n, end) ← part_at text place
  (_, next) ← expected 10 text end
  got (n, next)

-- ---- lines

-- A line of the input: `P n`, `F class client`, or `R`, `C`, `W`, `B` with login and folder, each with the place after it; or an ill-formed
-- line.
pub data Line : Type 0 where
  logins_line : (n next : ℕ) → Line
  folder_line : (class client next : ℕ) → Line
  request_line : (kind login folder next : ℕ) → Line
  ill_line : Line

-- `R`, `C`, `W`, `B` are kinds 1 to 4; any other letter is none.
abbrev pub kind_of : ℕ → ℕ
kind_of letter = cond (eqb letter 82) 1 (cond (eqb letter 67) 2 (cond (eqb letter 87) 3 (cond (eqb letter 66) 4 0)))

-- The line that one number makes.
unfoldable pub single_at : List ℕ → ℕ → (ℕ → ℕ → Line) → Parsed Line
single_at text place make = do
  (n, next) ← last_at text place
  got (make n next)

-- The line that two numbers make.
unfoldable pub pair_at : List ℕ → ℕ → (ℕ → ℕ → ℕ → Line) → Parsed Line
pair_at text place make = do
  (first, second) ← part_at text place
  (last, next) ← last_at text second
  got (make first last next)

-- What was read, or an ill-formed line.
abbrev pub or_ill : Parsed Line → Line
or_ill (got line) = line
or_ill (refused a) = ill_line

-- The line at a place.
unfoldable pub line_at : List ℕ → ℕ → Line
line_at text place =
    let letter : ℕ = byte_at text place in
    or_ill
    (cond (eqb letter 80) (single_at text (suc place) logins_line)
    (cond (eqb letter 70) (pair_at text (suc place) folder_line)
    (cond (ltb 0 (kind_of letter)) (pair_at text (suc place) (request_line (kind_of letter)))
    ill_formed)))

-- ---- as they are handed back

-- The place after a byte that was read.
abbrev pub byte_of : ℕ → Option ℕ → Parsed (ℕ × ℕ)
byte_of b (Some next) = got (b, next)
byte_of b None = ill_formed

-- The line that two numbers make, with the place after it, or an ill-formed line.
abbrev pub pair_line : (ℕ → ℕ → ℕ → Line) → Option (ℕ × ℕ × ℕ) → Line
pair_line make (Some (first, last, next)) = make first last next
pair_line make None = ill_line

-- A line as `read_line` hands it back.
abbrev pub line_of : Option (declared.Line × ℕ) → Line
line_of (Some (Logins n, next)) = logins_line n next
line_of (Some (Folder label, next)) = folder_line label.class.0 label.client.0 next
line_of (Some (Request asked, next)) = request_line asked.kind asked.login.0 asked.folder.0 next
line_of None = ill_line
