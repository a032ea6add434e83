-- Internal: a client's opponents by pairs, counted and listed. No rule of document 02 stands here.
use Rattle.std.specs.Prelude.{ℕ, Bool, List, map, length, get_or}
use Rattle.vocabulary.specs.Those.{those}
use Rattle.register_pairs.specs.Pair.{names_client, other_client}

-- The pair at a place names client c.
abbrev pub names : List ℕ → List ℕ → ℕ → ℕ → Bool
names firsts seconds c i = names_client (get_or firsts i 0) (get_or seconds i 0) c

-- The other client of a pair that names c.
abbrev pub other_of : List ℕ → List ℕ → ℕ → ℕ → ℕ
other_of firsts seconds c i = other_client (get_or firsts i 0) (get_or seconds i 0) c

-- How many pairs name c.
abbrev pub named : List ℕ → List ℕ → ℕ → ℕ
named firsts seconds c = length (those (names firsts seconds c) (length firsts))

-- The other clients of the first n pairs, as far as these name c.
unfoldable pub opponents : List ℕ → List ℕ → ℕ → ℕ → List ℕ
opponents firsts seconds c n = map (other_of firsts seconds c) (those (names firsts seconds c) n)
