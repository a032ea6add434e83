-- What the first cell above 3 says of all of them; and cells joined bit by bit.
use Prim.Native.Nat.{ℕ, ◌≤◌, ◌<◌}
use mathlib.Core.Bool.{true, ◌||◌}
use mathlib.Core.List.{List, []}
use mathlib.Core.Path.{◌≡◌}
use lib.ListN.{length, get_or}
use lib.Bits.{bit_or, or_add_and, and_le_l, and_le_r, or_lt}
use lib.Dec.{ltb}
use native.Mathlib.Omega.{arith}
use native.Mathlib.Decide.{dec_lt}
use borrow.Author.Tests.{ltb-false, lt-ltb, le-ltb}
use Rattle.vocabulary.specs.Those.{some, smallest}
use Rattle.vocabulary.proofs.Those.{first_some, first-none, some-none, those-empty}
use Rattle.cells.specs.Above.{above, aboves, first_above}

-- Below the length, it is the smallest place of one.
pub above-found : (cells : List ℕ) → first_above cells < length cells → (some (aboves cells) ≡ true) × (smallest (aboves cells) ≡ first_above cells)
unfolding aboves
above-found cells h = first_some (above cells) (length cells) (length cells) h

-- At the length, there is none.
pub above-none : (cells : List ℕ) → length cells ≤ first_above cells → aboves cells ≡ []
unfolding aboves
above-none cells h = some-none _ (first-none (above cells) (length cells) h)

-- Where there is none, every cell is 0 to 3.
pub above-small : (cells : List ℕ) → aboves cells ≡ [] → (i : ℕ) → i < length cells → get_or cells i 0 ≤ 3
unfolding aboves
above-small cells e i h = ltb-false 3 (get_or cells i 0) (those-empty (above cells) (length cells) e i h)

-- What one more cell adds to the cells joined bit by bit.
pub above-joined : (joined cell : ℕ) → ltb 3 (bit_or joined cell) ≡ (ltb 3 joined || ltb 3 cell)
above-joined joined cell =
    let sum = or_add_and joined cell in
    let left = and_le_l joined cell in
    let right = and_le_r joined cell in
    elim (dec_lt 3 joined) [
      | yes h ↦ rw (lt-ltb 3 joined h, lt-ltb 3 (bit_or joined cell) (omega (arith, sum, right)))
      | no h ↦ rw (le-ltb 3 joined (omega arith)) (elim (dec_lt 3 cell) [
        | yes k ↦ rw (lt-ltb 3 cell k, lt-ltb 3 (bit_or joined cell) (omega (arith, sum, left)))
        | no k ↦
            let both = or_lt 2 joined cell (omega arith) (omega arith) in
            rw (le-ltb 3 cell (omega arith), le-ltb 3 (bit_or joined cell) (omega (arith, both)))
      ])
    ]
