-- The lines that the desk prints (document 01, 'The desk program').
use Rattle.std.specs.Prelude.{ℕ, List, [], ◌∷◌}
use Rattle.vocabulary.specs.Answer.{Answer}
use Rattle.text_lines.specs.Text.{printed}

-- `input 41`
abbrev pub input_too_long : List ℕ
input_too_long = printed (105 ∷ 110 ∷ 112 ∷ 117 ∷ 116 ∷ 32 ∷ []) 41 []

-- `line n 40`
abbrev pub bad_line : ℕ → List ℕ
bad_line n = printed (108 ∷ 105 ∷ 110 ∷ 101 ∷ 32 ∷ []) n (40 ∷ [])

-- `register`, the number and the folders carried
abbrev pub bad_register : Answer → List ℕ
bad_register a = printed (114 ∷ 101 ∷ 103 ∷ 105 ∷ 115 ∷ 116 ∷ 101 ∷ 114 ∷ 32 ∷ []) a.number a.carried

-- 'Each request prints serial, answer and its folder list, or `-` and the number if it was not logged.'
abbrev pub serial_text : (serial number : ℕ) → List ℕ → List ℕ
serial_text serial number list = printed [] serial (number ∷ list)

abbrev pub dash_text : (number : ℕ) → List ℕ
dash_text number = printed (45 ∷ 32 ∷ []) number []
