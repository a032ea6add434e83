-- The numbers that the desk reads (document 01, 'The desk program').
use Rattle.std.specs.Prelude.{ℕ, ◌+◌, ◌-◌, ◌*◌, Bool, cond, not, ◌&&◌, ◌||◌, List, [], ◌∷◌, eqb, leb, length, get_or, drop, Option, Some, None}
use Rattle.vocabulary.specs.Answer.{answer}
use Rattle.vocabulary.specs.Parsed.{Parsed, got, refused}

-- The byte at a place; 256, which is no byte, past the end.
abbrev pub byte_at : List ℕ → ℕ → ℕ
byte_at text place = get_or text place 256

abbrev pub is_digit : ℕ → Bool
is_digit b = leb 48 b && leb b 57

-- The digits that a text begins with.
unfoldable pub digits_of : List ℕ → List ℕ
digits_of [] = []
digits_of (b ∷ bs) = cond (is_digit b) (b ∷ digits_of bs) []

-- The number that digits make when they follow those of n.
unfoldable pub value_after : ℕ → List ℕ → ℕ
value_after n [] = n
value_after n (b ∷ bs) = value_after (n * 10 + (b - 48)) bs

-- 'Numbers have one to five digits, no needless leading 0, at most 65,535.'
abbrev pub is_number : List ℕ → Bool
is_number digits =
    leb 1 (length digits)
    && leb (length digits) 5
    && (eqb (length digits) 1 || not (eqb (get_or digits 0 0) 48))
    && leb (value_after 0 digits) 65535

-- An ill-formed line's refusal.
abbrev pub ill_formed : {A : Type 0} → Parsed A
ill_formed = refused (answer 40 [])

-- The number at a place, and the place after its digits.
unfoldable pub number_at : List ℕ → ℕ → Parsed (ℕ × ℕ)
number_at text place =
    let digits : List ℕ = digits_of (drop place text) in
    cond (is_number digits) (got (value_after 0 digits, place + length digits)) ill_formed

-- A number as `read_number` hands it back.
abbrev pub numeral_of : Option (ℕ × ℕ) → Parsed (ℕ × ℕ)
numeral_of (Some x) = got x
numeral_of None = ill_formed
