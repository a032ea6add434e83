-- The first number that a search lists, if there is one.
use Prim.Native.Nat.{ℕ, ◌<◌, ◌≤◌}
use mathlib.Core.Path.{◌≡◌, refl, sym, ap}
use mathlib.Core.Bool.{Bool, true, false, false≢true}
use mathlib.Core.List.{List, [], ◌∷◌}
use Rattle.std.specs.Prelude.{Some, None, is_some, slice_get}
use Rattle.std.proofs.lemmas.Option.{get_or_from_slice_get}
use Rattle.vocabulary.specs.Those.{those, some, smallest}
use Rattle.vocabulary.proofs.Those.{those-found, those-end, smallest-holds}

-- A loop that has found nothing below i and finds i: it is the first.
pub first-found : (p : ℕ → Bool) (i n : ℕ) → those p i ≡ [] → p i ≡ true → i < n → Some i ≡ slice_get (those p n) 0
first-found p i n none here below = rw (those-found p i n none here below).1

-- A loop that has come to the bound and has found nothing: there is none.
pub first-none : (p : ℕ → Bool) (i n : ℕ) → those p i ≡ [] → n ≤ i → i ≤ n → None ≡ slice_get (those p n) 0
first-none p i n none low high = rw (← those-end p i n low high, none)

-- A search with a first find has found something, and that is the smallest.
pub found : (l : List ℕ) (f : ℕ) → Some f ≡ slice_get l 0 → (some l ≡ true) × (smallest l ≡ f)
found l f e = (at l e, get_or_from_slice_get l 0 f 0 (sym e))
  where
    at : (l : List ℕ) → Some f ≡ slice_get l 0 → some l ≡ true
    at [] e = absurd (false≢true (ap is_some (sym e)))
    at (x ∷ xs) e = refl

pub nothing : (l : List ℕ) → None ≡ slice_get l 0 → some l ≡ false
nothing [] e = refl
nothing (x ∷ xs) e = absurd (false≢true (ap is_some e))

-- What is found is below the bound, and passes the test.
pub first-holds : (p : ℕ → Bool) (n f : ℕ) → Some f ≡ slice_get (those p n) 0 → (f < n) × (p f ≡ true)
first-holds p n f e = rw (found (those p n) f e).1 at (smallest-holds p n (found (those p n) f e).0)
