-- Numbers listed from the start of an array, one after another.
use Prim.Native.Nat.{ℕ, ◌+◌}
use mathlib.Core.Bool.{Bool, true, false}
use mathlib.Core.List.{List, [], ◌∷◌, ◌++◌}
use mathlib.Core.Path.{◌≡◌, refl, ◌∙◌}
use native.Mathlib.Nat.{add-zero, zero-add}
use native.Mathlib.Omega.{arith}
use mir.Val.{bool_byte}
use lib.ListN.{length, set, length-append}
use lib.Seq.{sets, set-set}
use Rattle.vocabulary.specs.Those.{those}
use Rattle.vocabulary.proofs.Those.{those-take, those-skip}
use Rattle.vocabulary.proofs.Sets.{sets-append}
use Rattle.row_lost.specs.Lost.{listed_at_start}
use Rattle.row_lost.specs.Cut.{ListedSoFar}

-- Once the place after the list is cleared, count and array are those of the list.
pub listed-cleared : {array l list left : List ℕ} {n : ℕ} → ListedSoFar array l list n → left ≡ set list n 0 →
    record {
      count = n;
      list = left;
    }
    ≡ listed_at_start array l
listed-cleared s cleared = rw (cleared, s.cleared, s.counted)

-- The same list, by another name.
pub listed-same : {array l m list : List ℕ} {n : ℕ} → l ≡ m → ListedSoFar array l list n → ListedSoFar array m list n
listed-same e s = rw (← e) s

pub stored-none : {array l : List ℕ} → l ≡ [] → ListedSoFar array l array 0
stored-none none =
    rw none
    (record {
      cleared = refl;
      counted = refl;
    })

-- The next number is stored at the place after the list, and counts if it passes the test.
pub stored_next : (array : List ℕ) (p : ℕ → Bool) {list : List ℕ} {n : ℕ} (i : ℕ) → ListedSoFar array (those p i) list n →
    ListedSoFar array (those p (i + 1)) (set list n i) (n + bool_byte (p i))
stored_next array p {list} {n} i s = at (p i) refl
  where
    -- Whatever stood at the place after the list is written over.
    put : set list n i ≡ set (sets array 0 (those p i)) n i
    put = rw (← set-set list n 0 i, s.cleared, ← s.counted, set-set)

    longer : n + 1 ≡ length (those p i ++ (i ∷ []))
    longer = omega (arith, s.counted, length-append (those p i) (i ∷ []))

    stored : set list n i ≡ sets array 0 (those p i ++ (i ∷ []))
    stored = put ∙ rw (sets-append, zero-add, ← s.counted)

    at : (b : Bool) → p i ≡ b → ListedSoFar array (those p (i + 1)) (set list n i) (n + bool_byte (p i))
    at true e =
        rw (those-take p i e, e)
        (record {
          cleared = rw (stored, longer);
          counted = longer;
        })
    at false e =
        rw (those-skip p i e, e, add-zero)
        (record {
          cleared = rw set-set s.cleared;
          counted = s.counted;
        })
