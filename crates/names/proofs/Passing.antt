-- Laws of passing over a text, byte by byte, line by line and in blocks.
use Prim.Native.Nat.{ℕ, zero, suc, ◌+◌, ◌-◌, ◌≤◌, ◌<◌}
use native.Mathlib.Numerals.{add-one}
use native.Mathlib.Nat.{zero-add, add-zero, suc-add, sub-zero, sub-add-eq, add_assoc, min-eq_left, min-eq_right}
use native.Mathlib.Omega.{arith}
use mathlib.Core.Path.{◌≡◌, refl, sym, ap, ◌∙◌}
use mathlib.Core.Bool.{true, false}
use mathlib.Core.Logic.{◌⊎◌, inl, inr, ⊎_elim}
use mathlib.Core.List.{List, [], ◌∷◌, ◌++◌}
use lib.Dec.{eqb}
use lib.ListN.{length, drop, take, get_or, length-drop, take-append-drop, drop_of_length-le}
use lib.Seq.{drop-cons, drop-drop, length-take-le}
use Rattle.std.specs.Array.{IsFirstChunk}
use Rattle.std.proofs.lemmas.List.{take_rest}
use mir.Val.{bool_byte}
use Rattle.vocabulary.proofs.Bools.{true-or-false}
use Rattle.line_numbers.specs.LineNumber.{ended}
use Rattle.names.specs.Scan.{by_break, end_from, least, past, past_from, before_break}

-- ---- bytes 10

pub by_break-true : (b ends other : ℕ) → eqb b 10 ≡ true → by_break b ends other ≡ ends
unfolding by_break
by_break-true b ends other t = rw t

pub by_break-false : (b ends other : ℕ) → eqb b 10 ≡ false → by_break b ends other ≡ other
unfolding by_break
by_break-false b ends other f = rw f

-- A byte 10 counts one, any other none.
pub byte-break : (b : ℕ) → bool_byte (eqb b 10) ≡ by_break b 1 0
byte-break b =
    ⊎_elim (λ t. ap bool_byte t ∙ sym (by_break-true b 1 0 t)) (λ f. ap bool_byte f ∙ sym (by_break-false b 1 0 f)) (true-or-false (eqb b 10))

pub one-most : (b : ℕ) {r : ℕ} → r ≡ by_break b 1 0 → r ≤ 1
one-most b e =
    ⊎_elim (λ t. omega (arith, e, by_break-true b 1 0 t)) (λ f. omega (arith, e, by_break-false b 1 0 f)) (true-or-false (eqb b 10))

module _ (b : ℕ) (text : List ℕ) where
  pub ended-ends : eqb b 10 ≡ true → ended (b ∷ text) ≡ suc (ended text)
  unfolding ended
  ended-ends t = rw t

  pub ended-other : eqb b 10 ≡ false → ended (b ∷ text) ≡ ended text
  unfolding ended
  ended-other f = rw f

  ended-cons : ended (b ∷ text) ≡ by_break b 1 0 + ended text
  ended-cons =
      ⊎_elim (λ t. omega (arith, ended-ends t, by_break-true b 1 0 t)) (λ f. omega (arith, ended-other f, by_break-false b 1 0 f))
      (true-or-false (eqb b 10))

pub past-nil : (n : ℕ) → past [] n ≡ 0
unfolding past
past-nil n = refl

pub past-zero : (text : List ℕ) → past text 0 ≡ 0
unfolding past
past-zero [] = refl
past-zero (b ∷ text) = refl

module _ (b : ℕ) (text : List ℕ) (n : ℕ) where
  pub past-ends : eqb b 10 ≡ true → past (b ∷ text) (suc n) ≡ suc (past text n)
  unfolding past
  past-ends t = ap (λ (m : ℕ). suc (past text m)) (omega (arith, by_break-true b 1 0 t))

  pub past-other : eqb b 10 ≡ false → past (b ∷ text) (suc n) ≡ suc (past text (suc n))
  unfolding past
  past-other f = ap (λ (m : ℕ). suc (past text m)) (omega (arith, by_break-false b 1 0 f))

-- A part that has fewer bytes 10 than are sought is passed over whole.
pub past-append : (xs ys : List ℕ) (n : ℕ) → ended xs < n → past (xs ++ ys) n ≡ length xs + past ys (n - ended xs)
unfolding past ended
past-append [] ys n h = rw (sub-zero, zero-add)
past-append (b ∷ xs) ys zero h = absurd (omega (arith, h))
past-append (b ∷ xs) ys (suc n) h =
    rw
    (past-append xs ys (suc n - by_break b 1 0) (omega (arith, h, ended-cons b xs, one-most b refl)), suc-add, ended-cons b xs, sub-add-eq)

-- ---- the first byte 10

module _ (b : ℕ) (text : List ℕ) where
  pub before_break-here : eqb b 10 ≡ true → before_break (b ∷ text) ≡ 0
  unfolding before_break
  before_break-here t = rw t

  pub before_break-later : eqb b 10 ≡ false → before_break (b ∷ text) ≡ suc (before_break text)
  unfolding before_break
  before_break-later f = rw f

before_break-nil : before_break [] ≡ 0
unfolding before_break
before_break-nil = refl

pub before_break-most : (text : List ℕ) → before_break text ≤ length text
unfolding before_break
before_break-most [] = omega arith
before_break-most (b ∷ text) =
    ⊎_elim (λ t. omega (arith, before_break-here b text t)) (λ f. omega (arith, before_break-later b text f, before_break-most text)) (true-or-false (eqb b 10))

-- A part that has one tells it; a part that has none is passed over whole.
pub before_break-found : (xs ys : List ℕ) → before_break xs < length xs → before_break (xs ++ ys) ≡ before_break xs
unfolding before_break
before_break-found [] ys h = absurd (omega (arith, h))
before_break-found (b ∷ xs) ys h =
    ⊎_elim (λ t. rw t)
    (λ f. rw f (ap suc (before_break-found xs ys (omega (arith, h, before_break-later b xs f)))))
    (true-or-false (eqb b 10))

pub before_break-passed : (xs ys : List ℕ) → length xs ≤ before_break xs → before_break (xs ++ ys) ≡ length xs + before_break ys
unfolding before_break
before_break-passed [] ys h = sym (zero-add _)
before_break-passed (b ∷ xs) ys h =
    ⊎_elim (λ t. absurd (omega (arith, h, before_break-here b xs t)))
    (λ f. before_break-later b (xs ++ ys) f ∙ (ap suc (before_break-passed xs ys (omega (arith, h, before_break-later b xs f))) ∙ sym (suc-add _ _)))
    (true-or-false (eqb b 10))

-- Where n bytes are passed without one, the next is the first, or is passed too.
pub before_break-at : (text : List ℕ) (n : ℕ) → n < length text → n ≤ before_break text → eqb (get_or text n 0) 10 ≡ true → before_break text ≡ n
before_break-at [] n h k e = absurd (omega (arith, h))
before_break-at (b ∷ text) zero h k e = before_break-here b text e
before_break-at (b ∷ text) (suc n) h k e =
    ⊎_elim (λ t. absurd (omega (arith, k, before_break-here b text t)))
    (λ f. before_break-later b text f ∙ ap suc (before_break-at text n (omega (arith, h)) (omega (arith, k, before_break-later b text f)) e))
    (true-or-false (eqb b 10))

pub before_break-on : (text : List ℕ) (n : ℕ) → n < length text → n ≤ before_break text → eqb (get_or text n 0) 10 ≡ false → suc n ≤ before_break text
before_break-on [] n h k e = absurd (omega (arith, h))
before_break-on (b ∷ text) zero h k e = omega (arith, before_break-later b text e)
before_break-on (b ∷ text) (suc n) h k e =
    ⊎_elim (λ t. absurd (omega (arith, k, before_break-here b text t)))
    (λ f. omega (arith, before_break-later b text f, before_break-on text n (omega (arith, h)) (omega (arith, k, before_break-later b text f)) e))
    (true-or-false (eqb b 10))

-- What is passed up to the first byte 10 and with it, or in all.
past-found : (text : List ℕ) (n : ℕ) → before_break text < length text
    → past text (suc n) ≡ suc (before_break text) + past (drop (suc (before_break text)) text) n
past-found [] n h = absurd (omega (arith, h))
past-found (b ∷ text) n h =
    ⊎_elim
    (λ t. past-ends b text n t ∙ rw (before_break-here b text t) (omega arith))
    (λ f. past-other b text n f
    ∙ rw (before_break-later b text f) (omega (arith, past-found text n (omega (arith, h, before_break-later b text f)))))
    (true-or-false (eqb b 10))

past-unfound : (text : List ℕ) (n : ℕ) → length text ≤ before_break text → past text (suc n) ≡ before_break text
past-unfound [] n h = past-nil (suc n) ∙ sym before_break-nil
past-unfound (b ∷ text) n h =
    ⊎_elim
    (λ t. absurd (omega (arith, h, before_break-here b text t)))
    (λ f. past-other b text n f
    ∙ (ap suc (past-unfound text n (omega (arith, h, before_break-later b text f))) ∙ sym (before_break-later b text f)))
    (true-or-false (eqb b 10))

-- ---- the least place of one, in a block of at most 255 bytes

-- What n bytes tell: none is a byte 10, or one is the first.
abbrev pub Told : List ℕ → ℕ → Type 0
Told text n = ((least text n ≡ 255) × (n ≤ before_break text)) ⊎ ((least text n ≡ before_break text) × (before_break text < n))

-- One byte more.
told-suc : (text : List ℕ) (n : ℕ) → n < length text → n < 255 → Told text n → Told text (suc n)
unfolding least
told-suc text n h k (inl none) =
    ⊎_elim
    (λ t. let first : before_break text ≡ n = before_break-at text n h none.1 t in
    inr (rw (none.0, by_break-true _ n 255 t, first) (min-eq_right (omega (arith, k))), omega (arith, first)))
    (λ f. inl (rw (none.0, by_break-false _ n 255 f), before_break-on text n h none.1 f))
    (true-or-false (eqb (get_or text n 0) 10))
told-suc text n h k (inr found) =
    inr (
      rw found.0 (min-eq_left (⊎_elim
          (λ t. omega (arith, by_break-true (get_or text n 0) n 255 t, found.1))
          (λ f. omega (arith, by_break-false (get_or text n 0) n 255 f, found.1, k))
          (true-or-false (eqb (get_or text n 0) 10)))),
      omega (arith, found.1),
    )

pub least-told : (text : List ℕ) (n : ℕ) → n ≤ length text → n ≤ 255 → Told text n
unfolding least
least-told text zero h k = inl (refl, omega arith)
least-told text (suc n) h k = told-suc text n h k (least-told text n (omega (arith, h)) (omega (arith, k)))

-- ---- at a place of a text

-- A block of k bytes; and the text from there on, which is the block and what follows it.
abbrev pub block : List ℕ → ℕ → ℕ → List ℕ
block text at k = take k (drop at text)

block-rest : (text : List ℕ) (at k : ℕ) → block text at k ++ drop (at + k) text ≡ drop at text
block-rest text at k = rw (← drop-drop) (take-append-drop k (drop at text))

block-length : (text : List ℕ) (at k : ℕ) → at + k ≤ length text → length (block text at k) ≡ k
block-length text at k h = length-take-le k (drop at text) (omega (arith, length-drop at text, h))

-- The first k bytes of the text from a place on are a block of it.
pub chunk-block : (text : List ℕ) (at k : ℕ) {chunk : List ℕ} → at ≤ length text → IsFirstChunk (take (length text - at) (drop at text)) chunk k
    → (at + k ≤ length text) × (chunk ≡ block text at k)
chunk-block text at k h first =
    let rest = take_rest text at in
    (omega (arith, h, rw (rest, length-drop) at first.enough), first.same ∙ ap (take k) rest)

module _ (text : List ℕ) (at : ℕ) where
  -- Counted up to a place: a byte more, and all.
  pub ended-step : {r all : ℕ} (n : ℕ) → at < length text → r ≡ by_break (get_or text at 0) 1 0 → n + ended (drop at text) ≡ all
      → n + r + ended (drop (at + 1) text) ≡ all
  ended-step {r} {all} n h e counted =
      let step : ended (drop at text) ≡ by_break (get_or text at 0) 1 0 + ended (drop (at + 1) text) = rw (drop-cons text at 0 h, add-one) (ended-cons _ _) in
      omega (arith, step, e, counted)

  pub ended-length : {all : ℕ} (n : ℕ) → length text ≤ at → n + ended (drop at text) ≡ all → n ≡ all
  unfolding ended
  ended-length n h counted = sym (add-zero n) ∙ rw (drop_of_length-le text h) at counted

  pub past-none : past_from text at 0 ≡ at
  past-none = rw (past-zero, add-zero)

  -- Over the end of a line, or to the text's end.
  pub past-line : (n : ℕ) → (n ≡ 0 → ⊥) → end_from text at < length text → past_from text at n ≡ past_from text (end_from text at + 1) (n - 1)
  past-line zero k h = absurd (k refl)
  past-line (suc n) k h =
      let u = before_break (drop at text) in
      let passed = past-found (drop at text) n (omega (arith, h, length-drop at text)) in
      let next : at + suc u ≡ at + u + 1 = omega arith in
      let rest : drop (suc u) (drop at text) ≡ drop (at + u + 1) text = drop-drop (suc u) at text ∙ ap (λ (i : ℕ). drop i text) next in
      let over : at + past (drop at text) (suc n) ≡ past_from text (at + u + 1) n = omega (arith, rw rest at passed) in
      over ∙ ap (past_from text (at + u + 1)) (omega arith)

  pub past-last : (n : ℕ) → (n ≡ 0 → ⊥) → at ≤ length text → length text ≤ end_from text at → past_from text at n ≡ end_from text at
  past-last zero k h e = absurd (k refl)
  past-last (suc n) k h e = ap (λ (m : ℕ). at + m) (past-unfound (drop at text) n (omega (arith, e, h, length-drop at text)))

  -- A block that has fewer is passed over whole.
  pub past-block : {r : ℕ} (k n : ℕ) → at + k ≤ length text → r ≡ ended (block text at k) → r < n
      → past_from text (at + k) (n - r) ≡ past_from text at n
  past-block k n h e few =
      let passed = past-append (block text at k) (drop (at + k) text) n (omega (arith, e, few)) in
      sym (ap (λ (l : List ℕ). at + past l n) (sym (block-rest text at k))
      ∙ (ap (λ (m : ℕ). at + m) passed ∙ rw (block-length text at k h, e, add_assoc)))

  pub end-most : at ≤ length text → end_from text at ≤ length text
  end-most h = omega (arith, h, before_break-most (drop at text), length-drop at text)

  pub end-length : length text ≤ at → end_from text at ≡ at
  unfolding before_break
  end-length h = rw (drop_of_length-le text h, add-zero)

  pub end-here : at < length text → eqb (get_or text at 0) 10 ≡ true → end_from text at ≡ at
  end-here h t = rw (drop-cons text at 0 h, before_break-here _ _ t, add-zero)

  pub end_step : at < length text → eqb (get_or text at 0) 10 ≡ false → end_from text at ≡ end_from text (at + 1)
  end_step h f = rw (drop-cons text at 0 h, before_break-later _ _ f, add-one) (omega arith)

  -- A block tells its first byte 10, or is passed over whole.
  module _ {r : ℕ} (k : ℕ) (h : at + k ≤ length text) (small : k ≤ 255) (e : r ≡ least (block text at k) k) where
    block-told : Told (block text at k) k
    block-told = least-told (block text at k) k (omega (arith, block-length text at k h)) small

    pub end-block-found : r < k → at + r ≡ end_from text at
    end-block-found found =
        ⊎_elim (λ none. absurd (omega (arith, none.0, found, small, e)))
        (λ first. let told = before_break-found (block text at k) (drop (at + k) text) (omega (arith, block-length text at k h, first.1)) in
        ap (λ (m : ℕ). at + m) (e ∙ (first.0 ∙ (sym told ∙ ap before_break (block-rest text at k)))))
        block-told

    pub end-block-passed : k ≤ r → end_from text (at + k) ≡ end_from text at
    end-block-passed passed =
        ⊎_elim
        (λ none. let told = before_break-passed (block text at k) (drop (at + k) text) (omega (arith, block-length text at k h, none.1)) in
        rw add_assoc (ap (λ (m : ℕ). at + m) (rw (block-length text at k h) at (sym told) ∙ ap before_break (block-rest text at k))))
        (λ first. absurd (omega (arith, first.0, first.1, passed, e)))
        block-told
