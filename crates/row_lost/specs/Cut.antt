-- Internal: the list as the walks leave it, place by place, and the marks that it is made from. No rule of document 01 stands here.
use Rattle.std.specs.Prelude.{ℕ, ◌<◌, Bool, false, cond, List, [], ◌≡◌, length, get_or, set, leb}
use Rattle.register.specs.Register.{Register}
use Rattle.row.specs.Row.{lost_on}
use Rattle.row_lost.specs.Lost.{listed_at_start}

-- The numbers l, listed from the start of an array, n of them; the place after them may have any number yet.
pub record ListedSoFar (array l list : List ℕ) (n : ℕ) : Type 0 where
  pub cleared : set list n 0 ≡ (listed_at_start array l).list
  pub counted : n ≡ length l

-- The folders lost, where an array has at least as many places as the row; else none.
unfoldable pub lost_within : (places : ℕ) → Register → List ℕ → ℕ → ℕ → List ℕ
lost_within places r row o kind = cond (leb (length row) places) (lost_on r row o kind) []

-- The mark at a place; and the first n numbers are marked in a list, those that pass a test.
abbrev pub marked : List Bool → ℕ → Bool
marked marks i = get_or marks i false

pub record Marked (p : ℕ → Bool) (n : ℕ) (marks : List Bool) : Type 0 where
  pub told : (i : ℕ) → i < n → marked marks i ≡ p i
