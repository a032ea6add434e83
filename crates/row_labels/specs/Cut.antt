-- Internal: the two lists as the walks over a row take them. No rule of document 01 stands here.
use Rattle.std.specs.Prelude.{ℕ, List, ◌≡◌, length}

-- The two lists are of the row's length: what the walks need of them.
abbrev pub Alongside : List ℕ → List ℕ → List ℕ → Type 0
Alongside row classes clients = (length classes ≡ length row) × (length clients ≡ length row)
