-- Which clients are in conflict, in the two modes (document 01, 'The four kinds of request'; document 02, C-12).
use Rattle.std.specs.Prelude.{ℕ, Bool, cond, not, ◌&&◌, ◌||◌, eqb}
use Rattle.vocabulary.specs.Those.{those, some}
use Rattle.register.specs.Register.{Register, class_of, client_of, pairs, first_at, second_at}

-- By classes: folders f and g are of one class and of two clients.
abbrev pub one_class : Register → ℕ → ℕ → Bool
one_class r f g = eqb (class_of r f) (class_of r g) && not (eqb (client_of r f) (client_of r g))

-- The pair at a place names clients c and d, 'whichever way round the pair stands'.
abbrev pub pair_names : Register → ℕ → ℕ → ℕ → Bool
pair_names r c d i = (eqb (first_at r i) c && eqb (second_at r i) d) || (eqb (first_at r i) d && eqb (second_at r i) c)

-- By pairs: some pair names clients c and d.
unfoldable pub paired : Register → ℕ → ℕ → Bool
paired r c d = some (those (pair_names r c d) (pairs r))

-- Folders f and g are of clients in conflict, by the register's mode.
abbrev pub in_conflict : Register → ℕ → ℕ → Bool
in_conflict r f g = cond r.by_pairs (paired r (client_of r f) (client_of r g)) (one_class r f g)
