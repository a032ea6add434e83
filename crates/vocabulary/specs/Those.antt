-- Searches: the numbers below a bound that pass a test, rising. The first of them is 'the smallest number that fits'.
use Rattle.std.specs.Prelude.{ℕ, zero, suc, Bool, true, false, cond, ◌||◌, List, [], ◌∷◌, ◌++◌, get_or, eqb}

unfoldable pub those : (ℕ → Bool) → ℕ → List ℕ
those p zero = []
those p (suc n) = those p n ++ cond (p n) (n ∷ []) []

-- Whether a search found something.
abbrev pub some : List ℕ → Bool
some [] = false
some (x ∷ xs) = true

-- The smallest number that a search found (0 where it found none).
abbrev pub smallest : List ℕ → ℕ
smallest l = get_or l 0 0

-- Whether a list names a number.
unfoldable pub member : ℕ → List ℕ → Bool
member k [] = false
member k (x ∷ xs) = eqb k x || member k xs
