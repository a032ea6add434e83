-- Laws of the outcomes: what each way through packing answers and leaves.
use Prim.Native.Nat.{ℕ, ◌≤◌, ◌<◌}
use mathlib.Core.List.{List, [], ◌∷◌}
use mathlib.Core.Path.{◌≡◌}
use lib.ListN.{length, get_or, get_or-eq_default}
use native.Mathlib.Decide.{dec_lt}
use native.Mathlib.Omega.{arith}
use borrow.Author.Tests.{eq-eqb, ne_eqb, ltb-false}
use Rattle.vocabulary.specs.Answer.{answer, judge}
use Rattle.packing.specs.Cut.{AllCells}
use Rattle.packing.specs.Packed.{quarter, packed}
use Rattle.packing.specs.CopyOutcome.{copy_outcome, packs}
use Rattle.cells.specs.Above.{above, aboves, first_above}
use Rattle.cells.proofs.Above.{above-found}
use Rattle.vocabulary.proofs.Those.{those-empty}

-- where no cell above 3 is found, all are cells
pub all-cells : (cells : List ℕ) → aboves cells ≡ [] → AllCells cells
unfolding aboves
all-cells cells none i = go (dec_lt i (length cells))
  where
    go : Dec (i < length cells) → get_or cells i 0 ≤ 3
    go (yes h) = ltb-false 3 _ (those-empty (above cells) (length cells) none i h)
    go (no g) = rw (get_or-eq_default cells 0 {n = i} (omega arith)) (omega arith)

module _ (cells buffer : List ℕ) where
  pub pack-unequal : (length buffer ≡ quarter (length cells) → ⊥) → copy_outcome (answer 61 []) buffer ≡ packs cells buffer
  unfolding judge packs
  pack-unequal g = simp (ne_eqb _ _ g)

  module _ (fits : length buffer ≡ quarter (length cells)) where
    pub pack-above : (i : ℕ) → i ≡ first_above cells → i < length cells → copy_outcome (answer 60 (i ∷ [])) buffer ≡ packs cells buffer
    unfolding judge packs
    pack-above i is h = let found = above-found cells (rw is at h) in simp (eq-eqb _ _ fits, found.0, found.1, is)

    pub pack-packed : (now : List ℕ) → aboves cells ≡ [] → now ≡ packed cells → copy_outcome (answer 0 []) now ≡ packs cells buffer
    unfolding judge packs
    pack-packed now none is = simp (eq-eqb _ _ fits, none, is)
