-- Packing and unpacking undo each other.
use Prim.Native.Nat.{ℕ, zero, suc, ◌+◌, ◌-◌, ◌*◌, ◌/◌, ◌%◌, ◌≤◌, ◌<◌}
use mathlib.Core.Bool.{Bool, true, false}
use mathlib.Core.List.{List, [], ◌∷◌}
use mathlib.Core.Path.{◌≡◌, refl, sym, ap, ◌∙◌}
use lib.ListN.{length, get_or, get_or-eq_default}
use lib.Pow.{shr-shr}
use lib.Seq.{ext_get_or}
use native.Mathlib.Nat.{add-zero, zero-div, div-one, div-add-mod', mod-eq_of_lt, suc-ne-zero}
use native.Mathlib.Decide.{dec_lt}
use native.Mathlib.Omega.{arith}
use borrow.Author.Tests.{eqb-true, not-false, le-ltb}
use Rattle.vocabulary.specs.Answer.{answer, check, judge}
use Rattle.vocabulary.proofs.Those.{some-none, those-never}
use Rattle.packing.specs.Cut.{AllCells}
use Rattle.packing.specs.Packed.{quarter, byte_of, byte_at, packed}
use Rattle.packing.specs.CopyOutcome.{packs}
use Rattle.cells.specs.Above.{above, aboves}
use Rattle.unpacking.specs.Unpacked.{from, cell_at, unpacked, unused}
use Rattle.unpacking.specs.Unpacks.{unpacks}
use Rattle.unpacking.specs.RoundTrip.{UnpackOfPack, PackOfUnpack}
use Rattle.packing.proofs.Tabulates.{length-tabulate, get_d_tabulate}
use Rattle.packing.proofs.Outcomes.{all-cells, pack-packed}
use Rattle.unpacking.proofs.Cells.{cell-at}
use Rattle.unpacking.proofs.Outcomes.{unpack-unpacked}

-- ---- bytes of cells

length-packed : (cells : List ℕ) → length (packed cells) ≡ quarter (length cells)
unfolding packed
length-packed cells = length-tabulate (byte_at cells) _

length-unpacked : (n : ℕ) (bytes : List ℕ) → length (unpacked n bytes) ≡ n
unfolding unpacked
length-unpacked n bytes = length-tabulate (cell_at bytes) n

-- past its end a list reads as 0
past : (l : List ℕ) (i : ℕ) → length l ≤ i → get_or l i 0 ≡ 0
past l i h = get_or-eq_default l 0 h

-- byte k of the packed form, also past its end
get_d-packed : (cells : List ℕ) (k : ℕ) → get_or (packed cells) k 0 ≡ byte_at cells k
unfolding packed
get_d-packed cells k = go (dec_lt k (quarter (length cells)))
  where
    go : Dec (k < quarter (length cells)) → get_or (packed cells) k 0 ≡ byte_at cells k
    go (yes h) = get_d_tabulate (byte_at cells) _ k 0 h
    go (no g) =
        let h : length cells ≤ 4 * k = omega arith in
        rw (
          past (packed cells) k (rw (length-packed cells) (omega arith)),
          past cells (4 * k) h,
          past cells (4 * k + 1) (omega arith),
          past cells (4 * k + 2) (omega arith),
          past cells (4 * k + 3) (omega arith),
        )

-- a number below 4 is one of four
below-four : (P : ℕ → Type 0) → P 0 → P 1 → P 2 → P 3 → (j : ℕ) → j < 4 → P j
below-four P p q r s zero h = p
below-four P p q r s (suc zero) h = q
below-four P p q r s (suc (suc zero)) h = r
below-four P p q r s (suc (suc (suc zero))) h = s
below-four P p q r s (suc (suc (suc (suc j)))) h = absurd (omega arith)

module _ (cells : List ℕ) (k : ℕ) where
  -- cell j of byte k
  cell-packed : AllCells cells → (j : ℕ) → j < 4 → from (byte_at cells k) j % 4 ≡ get_or cells (4 * k + j) 0
  cell-packed all =
      below-four (λ (j : ℕ). from (byte_at cells k) j % 4 ≡ get_or cells (4 * k + j) 0) (rw add-zero go.0) go.1 go.2 go.3
    where
      go : (from (byte_at cells k) 0 % 4 ≡ get_or cells (4 * k) 0)
          × (from (byte_at cells k) 1 % 4 ≡ get_or cells (4 * k + 1) 0)
          × (from (byte_at cells k) 2 % 4 ≡ get_or cells (4 * k + 2) 0)
          × (from (byte_at cells k) 3 % 4 ≡ get_or cells (4 * k + 3) 0)
      go = omega (arith, all (4 * k), all (4 * k + 1), all (4 * k + 2), all (4 * k + 3))

  -- nothing stands in byte k from the place of the first cell that is lacking
  from_past : AllCells cells → (r : ℕ) → r < 4 → length cells ≤ 4 * k + r → from (byte_at cells k) r ≡ 0
  from_past all =
      below-four (λ (r : ℕ). length cells ≤ 4 * k + r → from (byte_at cells k) r ≡ 0)
      (λ h. omega (arith, past cells (4 * k) (omega arith), past cells (4 * k + 1) (omega arith), past cells (4 * k + 2) (omega arith), past cells (4 * k + 3) (omega arith)))
      (λ h. omega (arith, all (4 * k), past cells (4 * k + 1) (omega arith), past cells (4 * k + 2) (omega arith), past cells (4 * k + 3) (omega arith)))
      (λ h. omega (arith, all (4 * k), all (4 * k + 1), past cells (4 * k + 2) (omega arith), past cells (4 * k + 3) (omega arith)))
      (λ h. omega (arith, all (4 * k), all (4 * k + 1), all (4 * k + 2), past cells (4 * k + 3) (omega arith)))

-- the cells of a packed form are those that were packed, and its unused bits are 0
cell_at-packed : (cells : List ℕ) → AllCells cells → (i : ℕ) → cell_at (packed cells) i ≡ get_or cells i 0
cell_at-packed cells all i =
    rw (get_d-packed cells (i / 4)) (cell-packed cells (i / 4) all (i % 4) (omega arith) ∙ ap (λ (n : ℕ). get_or cells n 0) (omega arith))

unused-packed : (cells : List ℕ) → AllCells cells → unused (length cells) (packed cells) ≡ 0
unused-packed cells all =
    let n : ℕ = length cells in rw (get_d-packed cells (n / 4)) (from_past cells (n / 4) all (n % 4) (omega arith) (omega arith))

unpacked-packed : (cells : List ℕ) → AllCells cells → cells ≡ unpacked (length cells) (packed cells)
unfolding unpacked
unpacked-packed cells all =
    ext_get_or 0 cells _ (sym (length-tabulate _ (length cells)))
    (λ i h. sym (get_d_tabulate _ (length cells) i 0 h ∙ cell_at-packed cells all i))

-- ---- cells of bytes

from_zero : (b r j : ℕ) → r ≤ j → from b r ≡ 0 → from b j ≡ 0
from_zero b r j h none =
    let e : 2 * j ≡ 2 * r + 2 * (j - r) = omega arith in
    rw (e, ← shr-shr b (2 * r) (2 * (j - r)), none, zero-div)

-- a byte is its four cells
byte-whole : (b : ℕ) → b < 256 → b ≡ byte_of (from b 0 % 4) (from b 1 % 4) (from b 2 % 4) (from b 3 % 4)
byte-whole b h =
    let last : b / 64 % 4 ≡ b / 64 = mod-eq_of_lt (omega arith) in
    let lower : b / 16 ≡ b / 64 * 4 + b / 16 % 4 = rw (← shr-shr b 4 2) (sym (div-add-mod' (b / 16) 4)) in
    let middle : b / 4 ≡ b / 16 * 4 + b / 4 % 4 = rw (← shr-shr b 2 2) (sym (div-add-mod' (b / 4) 4)) in
    rw (div-one, last) (omega (arith, div-add-mod' b 4))

-- where all are cells, none above 3 is found
no-aboves : (cells : List ℕ) → AllCells cells → aboves cells ≡ []
unfolding aboves
no-aboves cells all = those-never (above cells) (length cells) (λ i h. le-ltb 3 (get_or cells i 0) (all i))

module _ (bytes : List ℕ) (n : ℕ) (fits : length bytes ≡ quarter n) (none : unused n bytes ≡ 0) where
  -- the cell at a place, also past the last
  get_d-unpacked : (i : ℕ) → get_or (unpacked n bytes) i 0 ≡ cell_at bytes i
  unfolding unpacked
  get_d-unpacked i = go (dec_lt i n) (dec_lt (n / 4) (i / 4))
    where
      blank : n ≤ i → get_or (unpacked n bytes) i 0 ≡ 0
      blank h = past (unpacked n bytes) i (rw (length-unpacked n bytes) h)

      go : Dec (i < n) → Dec (n / 4 < i / 4) → get_or (unpacked n bytes) i 0 ≡ cell_at bytes i
      go (yes h) d = get_d_tabulate (cell_at bytes) n i 0 h
      go (no g) (yes h) = blank (omega arith) ∙ rw (past bytes (i / 4) (omega arith), zero-div)
      go (no g) (no h) =
          let e : i / 4 ≡ n / 4 = omega arith in
          blank (omega arith) ∙ rw (e, from_zero (get_or bytes (n / 4) 0) (n % 4) (i % 4) (omega arith) none)

  all-unpacked : AllCells (unpacked n bytes)
  all-unpacked i = rw (get_d-unpacked i) (omega arith)

  -- cell j of byte k, in the unpacked list
  cell-unpacked : (k j i : ℕ) → j < 4 → 4 * k + j ≡ i → get_or (unpacked n bytes) i 0 ≡ from (get_or bytes k 0) j % 4
  cell-unpacked k j i h at = get_d-unpacked i ∙ sym (cell-at bytes k j i h at)

  byte-unpacked : ((k : ℕ) → get_or bytes k 0 < 256) → (k : ℕ) → get_or bytes k 0 ≡ get_or (packed (unpacked n bytes)) k 0
  byte-unpacked small k =
      rw (
        get_d-packed (unpacked n bytes) k,
        cell-unpacked k 0 (4 * k) (omega arith) (omega arith),
        cell-unpacked k 1 _ (omega arith) refl,
        cell-unpacked k 2 _ (omega arith) refl,
        cell-unpacked k 3 _ (omega arith) refl,
      )
      (byte-whole (get_or bytes k 0) (small k))

  packed-unpacked : ((k : ℕ) → get_or bytes k 0 < 256) → bytes ≡ packed (unpacked n bytes)
  packed-unpacked small =
      ext_get_or 0 bytes _ (fits ∙ sym (length-packed (unpacked n bytes) ∙ ap quarter (length-unpacked n bytes))) (λ k h. byte-unpacked small k)

-- ---- the claims

-- an answer 0 says that both checks passed
passes : (n m : ℕ) (xs ys : List ℕ) (b c : Bool) → (judge (check b (suc n) xs ∷ check c (suc m) ys ∷ []) (answer 0 [])).number ≡ 0 → (b ≡ false) × (c ≡ false)
unfolding judge
passes n m xs ys true c e = absurd (suc-ne-zero n e)
passes n m xs ys false true e = absurd (suc-ne-zero m e)
passes n m xs ys false false e = (refl, refl)

-- what packing accepts: the lengths match, and every cell is one; then it leaves the packed form
pack-accepts : (cells buffer : List ℕ) → (packs cells buffer).told.number ≡ 0 → AllCells cells × ((packs cells buffer).left ≡ packed cells)
unfolding packs
pack-accepts cells buffer ok =
    let p = passes 60 59 _ _ _ _ ok in
    let none = some-none (aboves cells) p.1 in
    (all-cells cells none, sym (ap (λ x. x.left) (pack-packed cells buffer (eqb-true _ _ (not-false _ p.0)) (packed cells) none refl)))

pub unpack-of-pack : UnpackOfPack
unpack-of-pack cells buffer room ok long =
    let p = pack-accepts cells buffer ok in
    rw p.1
    (sym
    (unpack-unpacked (packed cells) room (length-packed cells ∙ ap quarter (sym long)) cells (rw long (unused-packed cells p.0))
    (rw long (unpacked-packed cells p.0))))

-- what unpacking accepts: the lengths match, and no unused bit is set; then it leaves the cells
unpack-accepts : (bytes buffer : List ℕ) → (unpacks bytes buffer).told.number ≡ 0
    → (length bytes ≡ quarter (length buffer)) × (unused (length buffer) bytes ≡ 0) × ((unpacks bytes buffer).left ≡ unpacked (length buffer) bytes)
unfolding unpacks
unpack-accepts bytes buffer ok =
    let p = passes 60 61 _ _ _ _ ok in
    let fits = eqb-true _ _ (not-false _ p.0) in
    let none = eqb-true _ _ (not-false _ p.1) in
    (fits, none, sym (ap (λ x. x.left) (unpack-unpacked bytes buffer fits (unpacked (length buffer) bytes) none refl)))

pub pack-of-unpack : PackOfUnpack
pack-of-unpack bytes buffer room small ok long =
    let (fits, none, is) = unpack-accepts bytes buffer ok in
    let n = length buffer in
    rw is
    (sym
    (pack-packed (unpacked n bytes) room (long ∙ fits ∙ ap quarter (sym (length-unpacked n bytes))) bytes
    (no-aboves (unpacked n bytes) (all-unpacked bytes n fits none)) (packed-unpacked bytes n fits none small)))
