-- What it means that lists and folder fit a row.
use Prim.Native.Nat.{ℕ, ◌-◌, ◌≤◌, ◌<◌, min}
use mathlib.Core.Path.{◌≡◌, refl, ap}
use mathlib.Core.Bool.{Bool, true, false, ◌&&◌}
use mathlib.Core.List.{List}
use native.Mathlib.Omega.{arith}
use native.Mathlib.Decide.{dec_lt}
use lib.ListN.{length, length-take, length-drop}
use lib.Dec.{eqb, leb, ltb}
use borrow.Author.Tests.{eq-eqb, ne_eqb, eqb-true, le-leb, lt-leb, leb-true, lt-ltb, ltb-true}
use Rattle.vocabulary.specs.Place.{row_at}
use Rattle.vocabulary.proofs.Bools.{both}
use Rattle.register.specs.Register.{Register, folders}
use Rattle.row_labels.specs.Fitting.{lists_fit, fitting}
use Rattle.row_labels.specs.Cut.{Alongside}

module _ (r : Register) (row : List ℕ) where
  lists-fit : folders r ≡ length row → length r.clients ≡ length row → length row ≤ 512 → lists_fit r row ≡ true
  unfolding lists_fit
  lists-fit a b h = rw (eq-eqb _ _ a, eq-eqb _ _ b, le-leb _ _ h)

  pub lists-are : lists_fit r row ≡ true → Alongside row r.classes r.clients × (length row ≤ 512)
  unfolding lists_fit
  lists-are e =
      let p = both (eqb (folders r) (length row) && eqb (length r.clients) (length row)) (leb (length row) 512) e in
      let q = both (eqb (folders r) (length row)) (eqb (length r.clients) (length row)) p.0 in
      ((eqb-true _ _ q.0, eqb-true _ _ q.1), leb-true _ _ p.1)

  pub fits-row : (o : ℕ) → folders r ≡ length row → length r.clients ≡ length row → length row ≤ 512 → o < length row → fitting r row o ≡ true
  unfolding fitting
  fits-row o a b h k = rw (lists-fit a b h, lt-ltb o (length row) k)

  -- The row of a matrix has a cell for each folder just where the matrix has so many from the row's start on.
  pub lists-in : (m : List ℕ) (start : ℕ) → row ≡ row_at m start (folders r) →
      (leb (folders r) (length m - start) && eqb (length r.clients) (folders r) && leb (folders r) 512) ≡ lists_fit r row
  unfolding lists_fit
  lists-in m start e =
      let long : length row ≡ min (folders r) (length m - start) = rw (e, length-take, length-drop) in
      elim (dec_lt (length m - start) (folders r)) [
        | yes h ↦ rw (lt-leb (folders r) (length m - start) h, ne_eqb (folders r) (length row) (λ same. omega arith))
        | no h ↦
            let all : length row ≡ folders r = omega arith in
            rw (le-leb (folders r) (length m - start) (omega arith), all, eq-eqb (folders r) (folders r) refl)
      ]

  -- Where the lists fit, a folder is in the row if it is in the classes' list.
  pub fitting-by : (o : ℕ) → (lists_fit r row && ltb o (folders r)) ≡ fitting r row o
  unfolding fitting
  fitting-by o = by-fit (lists_fit r row) refl
    where
      by-fit : (b : Bool) → lists_fit r row ≡ b → (b && ltb o (folders r)) ≡ (b && ltb o (length row))
      by-fit true e = ap (ltb o) (lists-are e).0.0
      by-fit false e = refl

  module _ (o : ℕ) (fit : fitting r row o ≡ true) where
    pub lists-fitting : lists_fit r row ≡ true
    unfolding fitting
    lists-fitting = (both (lists_fit r row) (ltb o (length row)) fit).0

    pub folder-in : o < length row
    unfolding fitting
    folder-in = ltb-true _ _ (both (lists_fit r row) (ltb o (length row)) fit).1

    pub fits-are : Alongside row r.classes r.clients × (length row ≤ 512)
    fits-are = lists-are lists-fitting

    -- The folder has a place in both lists.
    pub folder-listed : (o < folders r) × (o < length r.clients)
    folder-listed = let p = fits-are in let h = folder-in in (omega (arith, p.0), omega (arith, p.0))
