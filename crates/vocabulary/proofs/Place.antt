-- Laws of a row in the matrix, and of the running place of a walk over it.
use Prim.Native.Nat.{ℕ, zero, suc, ◌+◌, ◌-◌, ◌*◌, ◌≤◌, ◌<◌}
use mathlib.Core.Path.{◌≡◌, refl, sym, ap, ◌∙◌}
use mathlib.Core.List.{List, [], ◌∷◌, ◌++◌}
use native.Mathlib.Nat.{zero-add, suc-add}
use native.Mathlib.Omega.{arith}
use lib.ListN.{length, get_or, set, take, drop, length-append, length-take, length-drop, take-append-drop, get_or-append}
use lib.Seq.{length-take-le, take-length, get_or-take, get_or-drop, get_or-append-add, set-append_left}
use Rattle.vocabulary.specs.Place.{row_at, with_row_at, Placed}

-- ---- the running place

pub placed : (folders start f place : ℕ) → place ≡ start + f → Placed folders start f place
placed folders start f place e = (e, λ (row : ℕ) (h : start ≡ row * folders). e ∙ ap (λ (s : ℕ). s + f) h)

-- At the walk's start, any number of folders further, and one more at each folder.
pub placed-start : (folders start : ℕ) → Placed folders start 0 start
placed-start folders start = placed folders start 0 start (omega arith)

pub placed_on : (folders start f place k : ℕ) → Placed folders start f place → Placed folders start (f + k) (place + k)
placed_on folders start f place k h = let e = h.0 in placed folders start (f + k) (place + k) (omega arith)

pub placed-next : (folders start f place : ℕ) → Placed folders start f place → Placed folders start (f + 1) (place + 1)
placed-next folders start f place h = placed_on folders start f place 1 h

-- ---- a row's cells

pub length-row_at : (m : List ℕ) (start n : ℕ) → start + n ≤ length m → length (row_at m start n) ≡ n
length-row_at m start n h = length-take-le n (drop start m) (rw length-drop (omega arith))

-- The matrix has room for a row that is whole.
pub row_at-room : (m : List ℕ) (start n : ℕ) → n ≡ length (row_at m start n) → n ≤ length m - start
row_at-room m start n e = let k = rw (length-take, length-drop) at e in omega arith

-- A folder of a row has a place in the matrix.
pub row_at-within : (m : List ℕ) (start n f : ℕ) → f < length (row_at m start n) → start + f < length m
row_at-within m start n f h = let k = rw (length-take, length-drop) at h in omega arith

pub placed-within : (m : List ℕ) (start n f place long : ℕ) → length (row_at m start n) ≡ long → Placed n start f place → f < long → place < length m
placed-within m start n f place long e p h = rw p.0 (row_at-within m start n f (rw e h))

take-length-take : (n : ℕ) (l : List ℕ) → take (length (take n l)) l ≡ take n l
take-length-take zero l = refl
take-length-take (suc n) [] = refl
take-length-take (suc n) (x ∷ l) = ap (λ (t : List ℕ). x ∷ t) (take-length-take n l)

-- As many cells as the matrix has of a row are that row.
pub row_at-length : (m : List ℕ) (start n : ℕ) → row_at m start (length (row_at m start n)) ≡ row_at m start n
row_at-length m start n = take-length-take n (drop start m)

-- The whole of a list is its row from 0 on.
pub row_at-all : (m : List ℕ) → row_at m 0 (length m) ≡ m
row_at-all m = take-length m

-- Its cell stands there.
pub cell-row_at : (m : List ℕ) (start n f : ℕ) → f < n → get_or (row_at m start n) f 0 ≡ get_or m (start + f) 0
cell-row_at m start n f h = get_or-take n (drop start m) f 0 h ∙ get_or-drop start m f 0

pub cell-placed : (m : List ℕ) (start n f place : ℕ) → Placed n start f place → f < n → get_or m place 0 ≡ get_or (row_at m start n) f 0
cell-placed m start n f place p h = ap (λ (i : ℕ). get_or m i 0) p.0 ∙ sym (cell-row_at m start n f h)

-- ---- the matrix with another row

-- A row put back is the matrix as it was.
pub with_row_at-row_at : (m : List ℕ) (start n : ℕ) → with_row_at m start n (row_at m start n) ≡ m
with_row_at-row_at m start n = rw (take-append-drop n (drop start m)) (take-append-drop start m)

set_append_right : (xs ys : List ℕ) (n a : ℕ) → set (xs ++ ys) (length xs + n) a ≡ xs ++ set ys n a
set_append_right [] ys n a = ap (λ (k : ℕ). set ys k a) (zero-add n)
set_append_right (x ∷ xs) ys n a =
    ap (λ (k : ℕ). set (x ∷ (xs ++ ys)) k a) (suc-add (length xs) n) ∙ ap (λ (l : List ℕ). x ∷ l) (set_append_right xs ys n a)

module _ (m row : List ℕ) (start n : ℕ) (whole : length row ≡ length (row_at m start n)) where
  pub length-with_row_at : length (with_row_at m start n row) ≡ length m
  length-with_row_at =
      rw (length-append, length-append, whole, ← length-append, ← length-append) (ap length (with_row_at-row_at m start n))

  module _ (f : ℕ) (h : f < length row) where
    front : length (take start m) ≡ start
    front = let w = row_at-within m start n f (rw (← whole) h) in length-take-le start m (omega arith)

    pub cell-with_row_at : get_or (with_row_at m start n row) (start + f) 0 ≡ get_or row f 0
    cell-with_row_at =
        ap (λ (i : ℕ). get_or (with_row_at m start n row) (i + f) 0) (sym front)
        ∙ (get_or-append-add (take start m) (row ++ drop n (drop start m)) f 0 ∙ get_or-append row (drop n (drop start m)) 0 f h)

    pub set-with_row_at : (v : ℕ) → set (with_row_at m start n row) (start + f) v ≡ with_row_at m start n (set row f v)
    set-with_row_at v =
        ap (λ (i : ℕ). set (with_row_at m start n row) (i + f) v) (sym front)
        ∙ (set_append_right (take start m) (row ++ drop n (drop start m)) f v
        ∙ ap (λ (l : List ℕ). take start m ++ l) (set-append_left row (drop n (drop start m)) f v h))
