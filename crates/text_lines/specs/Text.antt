-- Numbers and lines as they are printed (document 01, 'The desk program'), and a text as it is handed back.
use Rattle.std.specs.Prelude.{ℕ, zero, suc, ◌+◌, ◌/◌, ◌%◌, cond, ◌||◌, List, [], ◌∷◌, ◌++◌, ltb, length}
use Rattle.text_lines.specs.declared.text.Text.{Text}

-- A number's digits, of which at most `more` stand before the last.
unfoldable pub decimal_by : ℕ → ℕ → List ℕ
decimal_by zero n = (48 + n) ∷ []
decimal_by (suc more) n =
    let longer : List ℕ = decimal_by more (n / 10) ++ ((48 + n % 10) ∷ []) in
    cond (ltb n 10) ((48 + n) ∷ []) longer

-- A number as it is printed: in decimal digits, without a needless leading 0.
unfoldable pub decimal : ℕ → List ℕ
decimal n = decimal_by n n

-- Numbers, each after one space.
unfoldable pub spaced : List ℕ → List ℕ
spaced [] = []
spaced (n ∷ ns) = (32 ∷ decimal n) ++ spaced ns

-- 'Each printed line ends with byte 10, its parts one space apart.' Every line is a word with its space, or neither; a number; and the
-- numbers after it.
unfoldable pub printed : (word : List ℕ) → (number : ℕ) → (rest : List ℕ) → List ℕ
printed word number rest = word ++ decimal number ++ spaced rest ++ (10 ∷ [])

-- ---- texts as they are handed back

-- A text has room for a line whose word has at most 64 bytes and whose rest is at most 512 numbers; of one that may be longer nothing is
-- printed.
abbrev pub bounded : (word : List ℕ) → (number : ℕ) → (rest : List ℕ) → List ℕ
bounded word number rest = cond (ltb 64 (length word) || ltb 512 (length rest)) [] (printed word number rest)

-- A text that is handed back is its bytes.
abbrev pub text_of : List ℕ → Text
text_of bytes = bytes

-- What a program writes of a text that is handed back.
abbrev pub shown : Text → List ℕ
shown text = text
