-- Laws of the digits at a place, and of the number that they make.
use Prim.Native.Nat.{ℕ, zero, suc, ◌+◌, ◌-◌, ◌*◌, ◌≤◌, ◌<◌}
use native.Mathlib.Omega.{arith}
use mathlib.Core.Path.{◌≡◌, refl, sym}
use mathlib.Core.Bool.{Bool, true, false, cond, and-false}
use mathlib.Core.Logic.{⊎_elim}
use mathlib.Core.List.{List, [], ◌∷◌, ◌++◌}
use lib.Dec.{eqb, leb}
use lib.ListN.{length, take, drop, get_or, get_or-eq_default}
use lib.Seq.{drop-cons}
use borrow.Author.Tests.{eqb-true}
use Rattle.std.specs.Prelude.{min}
use Rattle.std.specs.List.{prefix_len}
use Rattle.std.proofs.Common.{Some, None}
use Rattle.std.specs.Bool.{then_some}
use Rattle.std.proofs.lemmas.Option.{none-some, cond_some}
use Rattle.std.proofs.lemmas.Bool.{lt-leb}
use Rattle.std.proofs.Math.Nat.{min_comm}
use Rattle.std.proofs.lemmas.List.{take_all, take_min, length-take-le}
use Rattle.vocabulary.specs.Parsed.{Parsed, got}
use Rattle.vocabulary.proofs.Order.{lt-or-le}
use Rattle.numerals.specs.Numbers.{is_digit, digits_of, value_after, is_number, ill_formed, byte_at, number_at}

suc-one : (n : ℕ) → 1 + n ≡ suc n
suc-one n = omega arith

-- The digits that a text begins with are as many of its bytes as are digits from the front on.
pub digits_taken : (text : List ℕ) → digits_of text ≡ take (prefix_len is_digit text) text
unfolding digits_of
digits_taken [] = refl
digits_taken (b ∷ bs) = by (is_digit b) (digits_taken bs)
  where
    by : (t : Bool) → digits_of bs ≡ take (prefix_len is_digit bs) bs → cond t (b ∷ digits_of bs) [] ≡ take (cond t (1 + prefix_len is_digit bs) 0) (b ∷ bs)
    by true e = rw (suc-one (prefix_len is_digit bs), e) refl
    by false e = refl

-- The digits among the first n bytes of a text are the first n that it begins with.
take-digits : (n : ℕ) (text : List ℕ) → digits_of (take n text) ≡ take n (digits_of text)
unfolding digits_of
take-digits zero text = refl
take-digits (suc n) [] = refl
take-digits (suc n) (b ∷ bs) = by (is_digit b) (take-digits n bs)
  where
    by : (t : Bool) → digits_of (take n bs) ≡ take n (digits_of bs) → cond t (b ∷ digits_of (take n bs)) [] ≡ take (suc n) (cond t (b ∷ digits_of bs) [])
    by true e = rw e refl
    by false e = refl

pub first-six : (text : List ℕ) → digits_of (take (min (length text) 6) text) ≡ take 6 (digits_of text)
first-six text = rw (min_comm (length text) 6, take_min 6 text, take-digits 6 text) refl

-- More than five digits are no number.
too-many : (digits : List ℕ) → 5 < length digits → is_number digits ≡ false
too-many digits h = rw (lt-leb (length digits) 5 h, and-false (leb 1 (length digits))) refl

-- So where the first six digits write a number they are all, and where they write none, neither do all.
pub six-some : (digits : List ℕ) (v w : ℕ) → then_some (is_number (take 6 digits)) v ≡ Some w → take 6 digits ≡ digits
six-some digits v w e =
    ⊎_elim
    (λ few. take_all 6 digits (omega arith))
    (λ many. absurd (none-some w (rw (too-many (take 6 digits) (omega (arith, length-take-le 6 digits many))) at e)))
    (lt-or-le (length digits) 6)

pub six-none : (digits : List ℕ) → then_some (is_number (take 6 digits)) (value_after 0 (take 6 digits)) ≡ None
    → then_some (is_number digits) (value_after 0 digits) ≡ None
six-none digits e =
    ⊎_elim
    (λ few. rw (take_all 6 digits (omega arith)) at e)
    (λ many. rw (too-many digits (omega arith)) refl)
    (lt-or-le (length digits) 6)

-- One digit more.
pub value_after-append : (n : ℕ) (digits : List ℕ) (b : ℕ) → value_after n (digits ++ (b ∷ [])) ≡ value_after n digits * 10 + (b - 48)
unfolding value_after
value_after-append n [] b = refl
value_after-append n (d ∷ ds) b = value_after-append (n * 10 + (d - 48)) ds b

-- The number that the digits at a place write, or none, is the number at the place.
module _ (text : List ℕ) (place : ℕ) where
  found : (t : Bool) (v w end : ℕ) → then_some t v ≡ Some w → ◌≡◌ {A = Parsed (ℕ × ℕ)} (got (w, end)) (cond t (got (v, end)) ill_formed)
  found true v w end e = rw (cond_some true v w e).1 refl
  found false v w end e = absurd (none-some w e)

  none : (t : Bool) (v end : ℕ) → then_some t v ≡ None → ◌≡◌ {A = Parsed (ℕ × ℕ)} ill_formed (cond t (got (v, end)) ill_formed)
  none true v end e = absurd (none-some v (sym e))
  none false v end e = refl

  pub number-found : (w : ℕ) → then_some (is_number (digits_of (drop place text))) (value_after 0 (digits_of (drop place text))) ≡ Some w
      → got (w, place + length (digits_of (drop place text))) ≡ number_at text place
  unfolding number_at
  number-found w = found (is_number (digits_of (drop place text))) (value_after 0 (digits_of (drop place text))) w (place + length (digits_of (drop place text)))

  pub number-none : then_some (is_number (digits_of (drop place text))) (value_after 0 (digits_of (drop place text))) ≡ None → ill_formed ≡ number_at text place
  unfolding number_at
  number-none = none (is_number (digits_of (drop place text))) (value_after 0 (digits_of (drop place text))) (place + length (digits_of (drop place text)))

module _ (text : List ℕ) (place : ℕ) where
  -- Past the end there is no byte.
  byte_inside : (byte_at text place ≡ 256 → ⊥) → place < length text
  byte_inside h =
      ⊎_elim (λ inside. inside) (λ past. absurd (h (get_or-eq_default text 256 past))) (lt-or-le place (length text))

  -- Inside the text the default does not matter.
  pub byte-within : place < length text → get_or text place 0 ≡ byte_at text place
  byte-within h = cc (drop-cons text place 0 h, drop-cons text place 256 h)

  pub byte_past : length text ≤ place → byte_at text place ≡ 256
  byte_past h = get_or-eq_default text 256 h

  -- Any byte that stands there stands inside.
  pub byte-found : {b : ℕ} → b < 256 → eqb (byte_at text place) b ≡ true → place < length text
  byte-found {b} small e = byte_inside (λ end. omega (arith, eqb-true (byte_at text place) b e))
