-- Laws of the lines of a text: what they come to for a walk over it.
use Prim.Native.Nat.{ℕ, zero, suc, ◌+◌, ◌-◌, ◌≤◌, min}
use native.Mathlib.Nat.{zero-min, min-zero, suc-min-suc, min-le_right, add-sub_cancel_left}
use native.Mathlib.Omega.{arith}
use mathlib.Core.Path.{◌≡◌, refl, sym, ap, ◌∙◌}
use mathlib.Core.Bool.{true, false}
use mathlib.Core.Logic.{⊎_elim}
use mathlib.Core.List.{List, [], ◌∷◌}
use lib.Dec.{eqb}
use lib.ListN.{length, length-drop, drop, take, get_or}
use lib.Seq.{length-take-le}
use borrow.Author.Tests.{eqb-true, eqb-false, ne_eqb}
use Rattle.vocabulary.proofs.Bools.{true-or-false}
use Rattle.vocabulary.specs.Those.{member}
use Rattle.line_numbers.specs.LineNumber.{ended}
use Rattle.names.specs.Lines.{with_ends, line_span, line_for, lines, line_start, longer}
use Rattle.names.specs.Claims.{joined_lines}
use Rattle.names.specs.declared.Span.{Span}
use Rattle.names.specs.Scan.{end_from, past, before_break}
use Rattle.names.proofs.Passing.{ended-ends, ended-other, past-ends, past-nil, past-other, past-zero, before_break-here, before_break-later, before_break-most}

-- The first line, and the others.
abbrev first : List ℕ → List ℕ
first text = get_or (lines text) 0 []

abbrev others : List ℕ → List (List ℕ)
others text = drop 1 (lines text)

module _ (b : ℕ) (text : List ℕ) where
  lines-ends : eqb b 10 ≡ true → lines (b ∷ text) ≡ [] ∷ lines text
  unfolding lines
  lines-ends t = rw t

  lines-longer : eqb b 10 ≡ false → lines (b ∷ text) ≡ longer b (lines text)
  unfolding lines
  lines-longer f = rw f

-- A text has a first line.
lines-some : (text : List ℕ) → lines text ≡ first text ∷ others text
unfolding lines longer
lines-some [] = refl
lines-some (b ∷ text) =
    ⊎_elim (λ t. rw (lines-ends b text t)) (λ f. rw (lines-longer b text f) (longer-some (lines-some text))) (true-or-false (eqb b 10))
  where
    longer-some : {ls : List (List ℕ)} → ls ≡ get_or ls 0 [] ∷ drop 1 ls → longer b ls ≡ get_or (longer b ls) 0 [] ∷ drop 1 (longer b ls)
    longer-some e = rw e

-- A byte that ends no line is the first of its line.
lines_other : (b : ℕ) (text : List ℕ) → eqb b 10 ≡ false → lines (b ∷ text) ≡ (b ∷ first text) ∷ others text
unfolding longer
lines_other b text f = lines-longer b text f ∙ ap (longer b) (lines-some text)

-- ---- the start of a line

-- What lies before line o: the lines, each with its byte 10.
before : List ℕ → ℕ → ℕ
before text o = length (with_ends (take o (lines text)))

module _ (b : ℕ) (text : List ℕ) (o : ℕ) where
  before-ends : eqb b 10 ≡ true → before (b ∷ text) (suc o) ≡ suc (before text o)
  unfolding before with_ends
  before-ends t = rw (lines-ends b text t)

  before-other : eqb b 10 ≡ false → before (b ∷ text) (suc o) ≡ suc (before text (suc o))
  unfolding before with_ends
  before-other f = rw (lines_other b text f, lines-some text)

-- The start of a line is where as many bytes 10 are passed.
pub line_start-past : (text : List ℕ) (o : ℕ) → line_start text o ≡ past text o
unfolding line_start before with_ends
line_start-past [] o = min-zero _ ∙ sym (past-nil o)
line_start-past (b ∷ text) zero = zero-min _ ∙ sym (past-zero (b ∷ text))
line_start-past (b ∷ text) (suc o) =
    ⊎_elim
    (λ t. ap (λ (n : ℕ). min n (suc (length text))) (before-ends b text o t)
    ∙ (suc-min-suc _ _ ∙ (ap suc (line_start-past text o) ∙ sym (past-ends b text o t))))
    (λ f. ap (λ (n : ℕ). min n (suc (length text))) (before-other b text o f)
    ∙ (suc-min-suc _ _ ∙ (ap suc (line_start-past text (suc o)) ∙ sym (past-other b text o f))))
    (true-or-false (eqb b 10))

-- ---- the line

-- The bytes up to the first byte 10.
up_to_first : List ℕ → List ℕ
up_to_first text = take (before_break text) text

module _ (b : ℕ) (text : List ℕ) where
  up_to_first-here : eqb b 10 ≡ true → up_to_first (b ∷ text) ≡ []
  unfolding up_to_first
  up_to_first-here t = rw (before_break-here b text t)

  up_to_first-later : eqb b 10 ≡ false → up_to_first (b ∷ text) ≡ b ∷ up_to_first text
  unfolding up_to_first
  up_to_first-later f = rw (before_break-later b text f)

-- A line is what lies between its start and the next byte 10.
line-nil : (o : ℕ) → line_for [] o ≡ up_to_first (drop (past [] o) [])
unfolding line_for lines past before_break up_to_first
line-nil zero = refl
line-nil (suc o) = refl

line-there : (text : List ℕ) (o : ℕ) → line_for text o ≡ up_to_first (drop (past text o) text)
unfolding line_for
line-there [] o = line-nil o
line-there (b ∷ text) zero =
    ⊎_elim
    (λ t. rw (lines-ends b text t, past-zero (b ∷ text)) (sym (up_to_first-here b text t)))
    (λ f. rw (lines_other b text f, past-zero (b ∷ text), up_to_first-later b text f)
    (ap (λ (l : List ℕ). b ∷ l) (rw (past-zero text) at (line-there text 0))))
    (true-or-false (eqb b 10))
line-there (b ∷ text) (suc o) =
    ⊎_elim
    (λ t. rw (lines-ends b text t, past-ends b text o t) (line-there text o))
    (λ f. rw (lines_other b text f, past-other b text o f) (rw (lines-some text) at (line-there text (suc o))))
    (true-or-false (eqb b 10))

module _ (text : List ℕ) (o : ℕ) where
  pub length-line_for : length (line_for text o) ≡ before_break (drop (past text o) text)
  unfolding up_to_first
  length-line_for = rw (line-there text o) (length-take-le _ _ (before_break-most (drop (past text o) text)))

  pub past-most : past text o ≤ length text
  unfolding line_start
  past-most = rw (line_start-past text o) at (min-le_right (length (with_ends (take o (lines text)))) (length text))

  -- The line lies inside the text.
  pub line-fits : line_start text o + length (line_for text o) ≤ length text
  line-fits =
      rw (line_start-past text o, length-line_for)
      (omega (arith, past-most, before_break-most (drop (past text o) text), length-drop (past text o) text))

  pub line_for-at : take (length (line_for text o)) (drop (line_start text o) text) ≡ line_for text o
  unfolding up_to_first
  line_for-at = rw (length-line_for, line_start-past text o) (sym (line-there text o))

  -- What a walk measures: the start, and from there the end.
  pub line-measured : {start end : ℕ} → start ≡ past text o → end ≡ end_from text start
      → ◌≡◌ {A = Span} (record { place = start; length = end - start }) (line_span text o)
  line-measured s e = rw (line_start-past text o, length-line_for, e, s, add-sub_cancel_left)

-- There is one line more than there are bytes 10.
length_none : length (lines []) ≡ suc (ended [])
unfolding lines ended
length_none = refl

pub length-lines : (text : List ℕ) → length (lines text) ≡ suc (ended text)
length-lines [] = length_none
length-lines (b ∷ text) =
    ⊎_elim
    (λ t. ap length (lines-ends b text t) ∙ ap suc (length-lines text ∙ sym (ended-ends b text t)))
    (λ f. ap length (lines_other b text f) ∙ (sym (ap length (lines-some text)) ∙ (length-lines text ∙ ap suc (sym (ended-other b text f)))))
    (true-or-false (eqb b 10))

-- As many bytes 10 are before a line as its number says, or all.
pub ended-past : (text : List ℕ) (o : ℕ) → ended (take (past text o) text) ≡ min o (ended text)
unfolding ended
ended-past [] o = rw (past-nil o) (sym (min-zero o))
ended-past (b ∷ text) zero = rw (past-zero (b ∷ text)) (sym (zero-min (ended (b ∷ text))))
ended-past (b ∷ text) (suc o) =
    ⊎_elim
    (λ t. rw (past-ends b text o t)
    (ended-ends b (take (past text o) text) t
    ∙ (ap suc (ended-past text o) ∙ (sym (suc-min-suc o (ended text)) ∙ ap (min (suc o)) (sym (ended-ends b text t))))))
    (λ f. rw (past-other b text o f)
    (ended-other b (take (past text (suc o)) text) f ∙ (ended-past text (suc o) ∙ ap (min (suc o)) (sym (ended-other b text f)))))
    (true-or-false (eqb b 10))

pub ended-line_start : (text : List ℕ) (o : ℕ) → ended (take (line_start text o) text) ≡ min o (ended text)
ended-line_start text o = rw (line_start-past text o) (ended-past text o)

-- No byte 10 is in a line.
member-up_to_first : (text : List ℕ) → member 10 (up_to_first text) ≡ false
unfolding member before_break up_to_first
member-up_to_first [] = refl
member-up_to_first (b ∷ text) =
    ⊎_elim (λ t. rw (up_to_first-here b text t))
    (λ f. rw (up_to_first-later b text f) (rw (ne_eqb 10 b (λ e. eqb-false b 10 f (sym e))) (member-up_to_first text)))
    (true-or-false (eqb b 10))

pub line_for-parts : (text : List ℕ) (o : ℕ) → member 10 (line_for text o) ≡ false
line_for-parts text o = rw (line-there text o) (member-up_to_first (drop (past text o) text))

-- Joined by byte 10, the lines are the text.
joined_lines-longer : (b : ℕ) (line : List ℕ) (rest : List (List ℕ)) → joined_lines ((b ∷ line) ∷ rest) ≡ b ∷ joined_lines (line ∷ rest)
unfolding joined_lines
joined_lines-longer b line [] = refl
joined_lines-longer b line (next ∷ rest) = refl

joined_lines-ends : (text : List ℕ) → joined_lines ([] ∷ lines text) ≡ 10 ∷ joined_lines (lines text)
unfolding joined_lines
joined_lines-ends text = rw (lines-some text)

joined_lines-none : joined_lines (lines []) ≡ []
unfolding joined_lines lines
joined_lines-none = refl

pub joined_lines-lines : (text : List ℕ) → joined_lines (lines text) ≡ text
joined_lines-lines [] = joined_lines-none
joined_lines-lines (b ∷ text) =
    ⊎_elim
    (λ t. ap joined_lines (lines-ends b text t)
    ∙ (joined_lines-ends text ∙ (ap (λ (l : List ℕ). 10 ∷ l) (joined_lines-lines text) ∙ ap (λ (n : ℕ). n ∷ text) (sym (eqb-true b 10 t)))))
    (λ f. ap joined_lines (lines_other b text f)
    ∙ (joined_lines-longer b _ _ ∙ ap (λ (l : List ℕ). b ∷ l) (ap joined_lines (sym (lines-some text)) ∙ joined_lines-lines text)))
    (true-or-false (eqb b 10))
