-- Laws of a printed line: a word, a number, and then the numbers after it and the line's end.
use Prim.Native.Nat.{ℕ, ◌+◌, ◌-◌, ◌^◌, ◌≤◌, ◌<◌}
use native.Mathlib.Nat.{zero-add, sub-zero}
use native.Mathlib.Omega.{arith}
use mathlib.Core.Path.{◌≡◌, refl}
use mathlib.Core.List.{List, [], ◌∷◌, ◌++◌, append_assoc}
use lib.ListN.{length, take, set, replicate, length-append}
use lib.Seq.{sets, sets-eq, length-sets, take-append_seam}
use borrow.Author.Tests.{le-ltb}
use Rattle.std.proofs.lemmas.List.{take_more_set, length-take-le}
use Rattle.vocabulary.proofs.Sets.{sets-append}
use Rattle.text_lines.specs.Text.{decimal, spaced, printed, bounded}
use Rattle.text_lines.proofs.Decimal.{decimal-length}
use Rattle.text_lines.proofs.Spaced.{Small, length-spaced}

-- ---- a text at the start of a buffer

-- One byte more, with zeros after it.
pub stored-more : (buffer : List ℕ) (len b : ℕ) → len < length buffer → buffer ≡ sets (replicate 4096 0) 0 (take len buffer)
    → set buffer len b ≡ sets (replicate 4096 0) 0 (take (len + 1) (set buffer len b))
stored-more buffer len b h e =
    rw (take_more_set buffer len b h, sets-append (replicate 4096 0) 0 (take len buffer) (b ∷ []), ← e, length-take-le len buffer (omega arith), zero-add) refl

-- A text that fits its buffer is found there again.
pub taken : (buffer text : List ℕ) → length text ≤ length buffer → take (length text) (sets buffer 0 text) ≡ text
taken buffer text h = rw (sets-eq text buffer 0 (omega arith)) (take-append_seam text _)

-- A text as a part of its buffer.
module _ (buffer text out : List ℕ) (end : ℕ) (room : length text ≤ length buffer) (stored : out ≡ sets buffer 0 text) (after : end ≡ length text) where
  pub part-within : end ≤ length out
  part-within = rw (stored, length-sets) (omega arith)

  pub part-text : take (end - 0) out ≡ text
  part-text = rw (sub-zero, after, stored) (taken buffer text room)

-- ---- a line

module _ (word : List ℕ) (number : ℕ) (rest : List ℕ) where
  length-printed : length (printed word number rest) ≡ length word + length (decimal number) + length (spaced rest ++ (10 ∷ []))
  unfolding printed
  length-printed = rw (append_assoc (word ++ decimal number), length-append, length-append)

  -- A line that a text has room for is printed, and its numbers leave it that room.
  module _ (short : length word ≤ 64) (few : length rest ≤ 512) where
    pub bounded-whole : bounded word number rest ≡ printed word number rest
    bounded-whole = rw (le-ltb 64 (length word) short, le-ltb 512 (length rest) few)

    pub printed-fits : number ≤ 2 ^ 64 → Small rest → length (printed word number rest) ≤ 4096
    printed-fits n small = rw (length-printed, length-append) (omega (arith, decimal-length 19 number (omega arith), length-spaced rest small))
