-- A list changed place by place.
use Rattle.std.specs.Prelude.{ℕ, suc, List, [], ◌∷◌}

-- Each element becomes what the function makes of its place, counted from 0, and of the element.
unfoldable pub each : (ℕ → ℕ → ℕ) → List ℕ → List ℕ
each f [] = []
each f (x ∷ xs) = f 0 x ∷ each (λ i. f (suc i)) xs
