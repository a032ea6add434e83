-- Laws of the outcomes: what each way through unpacking answers and leaves.
use Prim.Native.Nat.{ℕ}
use mathlib.Core.List.{List, []}
use mathlib.Core.Path.{◌≡◌}
use lib.ListN.{length}
use borrow.Author.Tests.{eq-eqb, ne_eqb}
use Rattle.vocabulary.specs.Answer.{answer, judge}
use Rattle.packing.specs.CopyOutcome.{copy_outcome}
use Rattle.packing.specs.Packed.{quarter}
use Rattle.unpacking.specs.Unpacked.{unpacked, unused}
use Rattle.unpacking.specs.Unpacks.{unpacks}

module _ (bytes buffer : List ℕ) where
  pub unpack-unequal : (length bytes ≡ quarter (length buffer) → ⊥) → copy_outcome (answer 61 []) buffer ≡ unpacks bytes buffer
  unfolding judge unpacks
  unpack-unequal g = simp (ne_eqb _ _ g)

  module _ (fits : length bytes ≡ quarter (length buffer)) where
    pub unpack-unused : (unused (length buffer) bytes ≡ 0 → ⊥) → copy_outcome (answer 62 []) buffer ≡ unpacks bytes buffer
    unfolding judge unpacks
    unpack-unused g = simp (eq-eqb _ _ fits, ne_eqb _ _ g)

    pub unpack-unpacked : (now : List ℕ) → unused (length buffer) bytes ≡ 0 → now ≡ unpacked (length buffer) bytes → copy_outcome (answer 0 []) now ≡ unpacks bytes buffer
    unfolding judge unpacks
    unpack-unpacked now none is = simp (eq-eqb _ _ fits, eq-eqb _ _ none, is)
