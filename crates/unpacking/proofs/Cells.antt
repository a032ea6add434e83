-- Laws of lists that are filled with the cells of bytes.
use Prim.Native.Nat.{ℕ, ◌+◌, ◌*◌, ◌/◌, ◌%◌, ◌≤◌, ◌<◌}
use mathlib.Core.List.{List}
use mathlib.Core.Path.{◌≡◌, refl, ap, ◌∙◌}
use lib.ListN.{length, get_or, drop, set}
use lib.Seq.{drop_at}
use native.Mathlib.Nat.{div-one}
use native.Mathlib.Omega.{arith}
use Rattle.packing.specs.Cut.{filled}
use Rattle.packing.specs.Tabulate.{tabulate}
use Rattle.packing.proofs.Tabulates.{length-tabulate, set-filled}
use Rattle.unpacking.specs.Unpacked.{from, cell_at}

module _ (f : ℕ → ℕ) (l : List ℕ) where
  -- four places more
  pub set-four : {out : List ℕ} {a b c d : ℕ} (n m : ℕ)
      → out ≡ filled f n l
      → a ≡ f n
      → b ≡ f (n + 1)
      → c ≡ f (n + 2)
      → d ≡ f (n + 3)
      → n + 4 ≤ length l
      → n + 4 ≡ m
      → set (set (set (set out n a) (n + 1) b) (n + 2) c) (n + 3) d ≡ filled f m l
  set-four n m done ia ib ic id h at =
      let e₁ = set-filled f l done refl ia (omega arith) in
      let e₂ = set-filled f l e₁ refl ib (omega arith) in
      let e₃ = set-filled f l e₂ (omega arith) ic (omega arith) in
      set-filled f l e₃ (omega arith) id (omega arith) ∙ ap (λ (k : ℕ). filled f k l) (omega arith)

  -- what is filled stays so
  pub filled-again : {out : List ℕ} {k n : ℕ} → out ≡ filled f k l → k ≡ n → out ≡ filled f n out
  unfolding filled
  filled-again {out} {k} {n} done at =
      rw done (rw (at, drop_at (tabulate f n) (drop n l) n (length-tabulate f n)))

-- cell j of byte k stands at place 4 k + j
pub cell-at : (bytes : List ℕ) (k j n : ℕ) → j < 4 → 4 * k + j ≡ n → from (get_or bytes k 0) j % 4 ≡ cell_at bytes n
cell-at bytes k j n h at =
    let q : n / 4 ≡ k = omega arith in
    let r : n % 4 ≡ j = omega arith in
    rw (q, r)

-- the four cells of byte k, stored where the cells of the bytes before it are
pub filled-byte : (bytes l : List ℕ) {out : List ℕ} (k m : ℕ) → out ≡ filled (cell_at bytes) (4 * k) l → 4 * k + 4 ≤ length l → 4 * k + 4 ≡ m
    → set (set (set (set out (4 * k) (get_or bytes k 0 % 4)) (4 * k + 1) (get_or bytes k 0 / 4 % 4)) (4 * k + 2) (get_or bytes k 0 / 16 % 4)) (4 * k + 3) (get_or bytes k 0 / 64 % 4)
    ≡ filled (cell_at bytes) m l
filled-byte bytes l k m done h at =
    set-four (cell_at bytes) l (4 * k) m done (rw (← div-one (get_or bytes k 0)) (cell-at bytes k 0 _ (omega arith) (omega arith)))
    (cell-at bytes k 1 _ (omega arith) refl) (cell-at bytes k 2 _ (omega arith) refl) (cell-at bytes k 3 _ (omega arith) refl) h at
