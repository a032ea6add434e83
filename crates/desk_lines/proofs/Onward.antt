-- A line ends after its place and within the text; so does each part of it.
use Prim.Native.Nat.{ℕ, suc, ◌+◌, ◌≤◌, ◌<◌}
use native.Mathlib.Omega.{arith}
use mathlib.Core.Path.{◌≡◌, refl}
use mathlib.Core.Bool.{Bool, true, false, cond, false≢true}
use mathlib.Core.List.{List, [], ◌∷◌}
use lib.Dec.{eqb, ltb}
use lib.ListN.{length, drop, length-drop}
use Rattle.vocabulary.specs.Parsed.{Parsed, got, refused, ◌>>=◌}
use Rattle.numerals.specs.Numbers.{is_digit, digits_of, value_after, is_number, ill_formed, byte_at, number_at}
use Rattle.desk_lines.specs.Lines.{Line, logins_line, folder_line, request_line, ill_line, expected, part_at, last_at, single_at, pair_at, or_ill, kind_of, line_at}
use Rattle.numerals.proofs.Digits.{byte-found}

-- A place after `place` and within the text.
abbrev pub After : List ℕ → (place next : ℕ) → Type 0
After text place next = (place < next) × (next ≤ length text)

-- What holds of each way that a test can go.
either_way : {A : Type 0} (P : A → Type 0) (t : Bool) (x y : A) → (t ≡ true → P x) → (t ≡ false → P y) → P (cond t x y)
either_way P true x y f g = f refl
either_way P false x y f g = g refl

-- ---- what holds of a reading, if it is no refusal

abbrev IfGot : {A : Type 0} → (A → Type 0) → Parsed A → Type 0
IfGot P (got x) = P x
IfGot P (refused a) = Unit {0}

then-got : {A B : Type 0} (P : A → Type 0) (Q : B → Type 0) (p : Parsed A) (more : A → Parsed B) → IfGot P p
    → ((x : A) → P x → IfGot Q (more x)) → IfGot Q (◌>>=◌ p more)
unfolding ◌>>=◌
then-got P Q (got x) more here then = then x here
then-got P Q (refused a) more here then = tt

-- ---- the parts

-- If a part was read then its next place is after its place.
abbrev Onward : List ℕ → ℕ → Parsed (ℕ × ℕ) → Type 0
Onward text place = IfGot (λ x. After text place x.1)

expected-onward : (b : ℕ) (text : List ℕ) (place : ℕ) → b < 256 → Onward text place (expected b text place)
unfolding expected
expected-onward b text place small =
    either_way (Onward text place) (eqb (byte_at text place) b) (got (b, suc place)) ill_formed
    (λ e. (omega arith, byte-found text place small e)) (λ e. tt)

-- The digits at a place are some of the bytes there, and a number has one at least.
digits-within : (text : List ℕ) → length (digits_of text) ≤ length text
unfolding digits_of
digits-within [] = omega arith
digits-within (b ∷ bs) =
    let within = digits-within bs in
    either_way (λ digits. length digits ≤ suc (length bs)) (is_digit b) (b ∷ digits_of bs) [] (λ e. omega arith) (λ e. omega arith)

number-some : (digits : List ℕ) → is_number digits ≡ true → 0 < length digits
number-some [] e = absurd (false≢true e)
number-some (b ∷ bs) e = omega arith

number-onward : (text : List ℕ) (place : ℕ) → Onward text place (number_at text place)
unfolding number_at
number-onward text place =
    let digits = digits_of (drop place text) in
    let within = digits-within (drop place text) in
    either_way (Onward text place) (is_number digits) (got (value_after 0 digits, place + length digits)) ill_formed
    (λ e. (omega (arith, number-some digits e), omega (arith, number-some digits e, length-drop place text))) (λ e. tt)

-- What is after a later place is after an earlier one.
later : (text : List ℕ) (place at : ℕ) → place ≤ at → (p : Parsed (ℕ × ℕ)) → Onward text at p → Onward text place p
later text place at h (got x) here = (omega arith, here.1)
later text place at h (refused a) here = tt

part-onward : (text : List ℕ) (place : ℕ) → Onward text place (part_at text place)
unfolding part_at
part-onward text place =
    then-got (λ x. After text place x.1) (λ x. After text place x.1) (expected 32 text place) (λ x. number_at text x.1)
    (expected-onward 32 text place (omega arith))
    (λ x here. later text place x.1 (omega arith) (number_at text x.1) (number-onward text x.1))

last-onward : (text : List ℕ) (place : ℕ) → Onward text place (last_at text place)
unfolding last_at
last-onward text place =
    then-got (λ x. After text place x.1) (λ x. After text place x.1) (part_at text place)
    (λ x. ◌>>=◌ (expected 10 text x.1) (λ y. got (x.0, y.1))) (part-onward text place)
    (λ x here.
    then-got (λ y. After text x.1 y.1) (λ z. After text place z.1) (expected 10 text x.1) (λ y. got (x.0, y.1))
    (expected-onward 10 text x.1 (omega arith)) (λ y there. (omega arith, there.1)))

-- ---- a line

-- The next place of a line is after its place.
abbrev pub Ahead : List ℕ → ℕ → Line → Type 0
Ahead text place (logins_line n next) = After text place next
Ahead text place (folder_line class client next) = After text place next
Ahead text place (request_line kind login o next) = After text place next
Ahead text place ill_line = Unit {0}

-- A line that one number makes, or two, if it is one that ends after what they end after.
single-ahead : (text : List ℕ) (place : ℕ) (make : ℕ → ℕ → Line) → ((n next : ℕ) → After text place next → Ahead text place (make n next))
    → IfGot (Ahead text place) (single_at text (suc place) make)
unfolding single_at
single-ahead text place make made =
    then-got (λ x. After text (suc place) x.1) (Ahead text place) (last_at text (suc place)) (λ x. got (make x.0 x.1))
    (last-onward text (suc place)) (λ x here. made x.0 x.1 (omega arith, here.1))

pair-ahead : (text : List ℕ) (place : ℕ) (make : ℕ → ℕ → ℕ → Line) → ((m n next : ℕ) → After text place next → Ahead text place (make m n next))
    → IfGot (Ahead text place) (pair_at text (suc place) make)
unfolding pair_at
pair-ahead text place make made =
    then-got (λ x. After text (suc place) x.1) (Ahead text place) (part_at text (suc place))
    (λ x. ◌>>=◌ (last_at text x.1) (λ y. got (make x.0 y.0 y.1))) (part-onward text (suc place))
    (λ x here.
    then-got (λ y. After text x.1 y.1) (Ahead text place) (last_at text x.1) (λ y. got (make x.0 y.0 y.1))
    (last-onward text x.1) (λ y there. made x.0 y.0 y.1 (omega arith, there.1)))

pub line-ahead : (text : List ℕ) (place : ℕ) → Ahead text place (line_at text place)
unfolding line_at
line-ahead text place =
    let P = IfGot (Ahead text place) in
    let letter = byte_at text place in
    let l = single_at text (suc place) logins_line in
    let f = pair_at text (suc place) folder_line in
    let r = pair_at text (suc place) (request_line (kind_of letter)) in
    read (cond (eqb letter 80) l (cond (eqb letter 70) f (cond (ltb 0 (kind_of letter)) r ill_formed)))
    (either_way P (eqb letter 80) l (cond (eqb letter 70) f (cond (ltb 0 (kind_of letter)) r ill_formed)) (λ e. single-ahead text place logins_line (λ n next h. h))
    (λ e. either_way P (eqb letter 70) f (cond (ltb 0 (kind_of letter)) r ill_formed) (λ e. pair-ahead text place folder_line (λ m n next h. h))
    (λ e. either_way P (ltb 0 (kind_of letter)) r ill_formed (λ e. pair-ahead text place (request_line (kind_of letter)) (λ m n next h. h)) (λ e. tt))))
  where
    read : (p : Parsed Line) → IfGot (Ahead text place) p → Ahead text place (or_ill p)
    read (got line) here = here
    read (refused a) here = tt

-- Past the end there is no line.
pub line-past : (text : List ℕ) (place : ℕ) → length text ≤ place → line_at text place ≡ ill_line
line-past text place past = by (line_at text place) (line-ahead text place)
  where
    by : (line : Line) → Ahead text place line → line ≡ ill_line
    by (logins_line n next) ahead = absurd (omega arith)
    by (folder_line class client next) ahead = absurd (omega arith)
    by (request_line kind login o next) ahead = absurd (omega arith)
    by ill_line ahead = refl
