-- The search for a rival by pairs, on a row alone (document 02, C-12): a folder that s may read, 'of a client in conflict with the one asked for'.
-- A row may be given with any lists.
use Rattle.std.specs.Prelude.{ℕ, Bool, cond, ◌&&◌, List, [], length, get_or, eqb}
use Rattle.vocabulary.specs.Those.{those}
use Rattle.register.specs.Register.{Register, client_of}
use Rattle.register_pairs.specs.Pair.{pairs_fit}
use Rattle.policy.specs.Conflict.{paired}
use Rattle.policy.specs.Rules.{cell, can_read}

-- Folder f may be read, and is of a client in conflict by pairs with client c.
abbrev pub opposed : Register → List ℕ → ℕ → ℕ → Bool
opposed r row c f = can_read (cell row f) && paired r (client_of r f) c

-- All such folders; none where the clients are not of the row's length or the pairs do not fit.
unfoldable pub opposers : Register → List ℕ → ℕ → List ℕ
opposers r row c = cond (eqb (length r.clients) (length row) && pairs_fit r) (those (opposed r row c) (length row)) []

-- The first of them, or the row's length.
abbrev pub first_opposer : Register → List ℕ → ℕ → ℕ
first_opposer r row c = get_or (opposers r row c) 0 (length row)
