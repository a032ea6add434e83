-- Laws of the matrix's rows: a row put in is read back, the others stay.
use Prim.Native.Nat.{ℕ, ◌+◌, ◌*◌, ◌-◌, ◌≤◌, ◌<◌}
use mathlib.Core.Path.{◌≡◌, sym, ap, ◌∙◌}
use mathlib.Core.List.{List, ◌++◌}
use native.Mathlib.Nat.{suc-mul, mul-le-mul_right}
use native.Mathlib.Omega.{arith}
use native.Mathlib.Decide.{dec_lt}
use lib.ListN.{length, take, drop, length-drop, take-append-drop}
use lib.Seq.{length-take-le, take_at, drop_at, drop-append-le, take-append-le, drop-drop}
use Rattle.vocabulary.proofs.Place.{length-row_at, with_row_at-row_at, length-with_row_at}
use Rattle.register.specs.Register.{Register, folders}
use Rattle.policy.specs.Rules.{row_of, with_row}

-- A row of f cells lies within the rows up to a later one.
pub row_fits : (s p f : ℕ) → s < p → s * f + f ≤ p * f
row_fits s p f h = rw (← suc-mul s f) (mul-le-mul_right f h)

module _ (m row : List ℕ) (start f : ℕ) (fits : start + f ≤ length m) (whole : length row ≡ f) where
  front : length (take start m) ≡ start
  front = length-take-le start m (omega arith)

  pub patch-length : length (take start m ++ (row ++ drop f (drop start m))) ≡ length m
  patch-length = length-with_row_at m row start f (whole ∙ sym (length-row_at m start f fits))

  pub patch-same : take f (drop start (take start m ++ (row ++ drop f (drop start m)))) ≡ row
  patch-same = rw (drop_at (take start m) (row ++ drop f (drop start m)) start front) (take_at row (drop f (drop start m)) f whole)

  -- the rows before
  pub patch-before : (at : ℕ) → at + f ≤ start → take f (drop at (take start m ++ (row ++ drop f (drop start m)))) ≡ take f (drop at m)
  patch-before at h = first (row ++ drop f (drop start m)) ∙ sym (rw take-append-drop at (first (drop start m)))
    where
      first : (x : List ℕ) → take f (drop at (take start m ++ x)) ≡ take f (drop at (take start m))
      first x =
          rw (drop-append-le at (take start m) x (rw front (omega arith)))
          (take-append-le f (drop at (take start m)) x (rw (length-drop, front) (omega arith)))

  -- the rows after
  pub patch-after : (at : ℕ) → start + f ≤ at → drop at (take start m ++ (row ++ drop f (drop start m))) ≡ drop at m
  patch-after at h =
      let k : at ≡ (start + f) + (at - (start + f)) = omega arith in
      rw (k, ← drop-drop (at - (start + f)) (start + f), ← drop-drop (at - (start + f)) (start + f))
      (ap (drop (at - (start + f))) tail)
    where
      tail : drop (start + f) (take start m ++ (row ++ drop f (drop start m))) ≡ drop (start + f) m
      tail =
          sym (drop-drop f start (take start m ++ (row ++ drop f (drop start m))))
          ∙ (ap (drop f) (drop_at (take start m) (row ++ drop f (drop start m)) start front)
          ∙ (drop_at row (drop f (drop start m)) f whole ∙ drop-drop f start m))

module _ (r : Register) (m : List ℕ) (whole : length m ≡ r.logins * folders r) (s : ℕ) (known : s < r.logins) where
  within : s * folders r + folders r ≤ length m
  within = rw whole (row_fits s r.logins (folders r) known)

  pub length-row_of : length (row_of r m s) ≡ folders r
  length-row_of = length-row_at m (s * folders r) (folders r) within

  module _ (row : List ℕ) (full : length row ≡ folders r) where
    pub length-with_row : length (with_row r m s row) ≡ length m
    length-with_row = patch-length m row (s * folders r) (folders r) within full

    pub row_of-with_row : row_of r (with_row r m s row) s ≡ row
    row_of-with_row = patch-same m row (s * folders r) (folders r) within full

    pub row_of-with_row-other : (t : ℕ) → (t ≡ s → ⊥) → row_of r (with_row r m s row) t ≡ row_of r m t
    row_of-with_row-other t d =
        elim (dec_lt t s) [
          | yes h ↦ patch-before m row (s * folders r) (folders r) within full (t * folders r) (row_fits t s (folders r) h)
          | no h ↦ ap (take (folders r)) (patch-after m row (s * folders r) (folders r) within full (t * folders r) (row-fits' h))
        ]
      where
        row-fits' : (t < s → ⊥) → s * folders r + folders r ≤ t * folders r
        row-fits' h = row_fits s t (folders r) (omega arith)

-- A row put back is the matrix as it was.
pub with_row-row_of : (r : Register) (m : List ℕ) (s : ℕ) → with_row r m s (row_of r m s) ≡ m
with_row-row_of r m s = with_row_at-row_at m (s * folders r) (folders r)
