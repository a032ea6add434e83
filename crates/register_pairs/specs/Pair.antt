-- A pair of clients, and the lists of pairs (document 02, C-12).
use Rattle.std.specs.Prelude.{ℕ, Bool, cond, ◌&&◌, ◌||◌, length, eqb, leb}
use Rattle.register.specs.Register.{Register, pairs}

-- The pair of a and b names client c, whichever way round it stands.
abbrev pub names_client : ℕ → ℕ → ℕ → Bool
names_client a b c = eqb a c || eqb b c

-- The other client of a pair of a and b that names c.
abbrev pub other_client : ℕ → ℕ → ℕ → ℕ
other_client a b c = cond (eqb a c) b a

-- The lists of pairs are of one length and have at most 256 pairs; else refusal 11, as far as it concerns their sizes.
unfoldable pub pairs_fit : Register → Bool
pairs_fit r = eqb (pairs r) (length r.seconds) && leb (pairs r) 256
