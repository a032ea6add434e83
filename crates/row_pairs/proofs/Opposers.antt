-- The first folder of an opponent is the one looked for.
use Prim.Native.Nat.{ℕ}
use mathlib.Core.Path.{◌≡◌, ap, sym}
use mathlib.Core.Bool.{true}
use mathlib.Core.List.{List}
use lib.ListN.{length, get_or}
use Rattle.vocabulary.proofs.Those.{those-agree}
use Rattle.register.specs.Register.{Register, client_of, pairs}
use Rattle.row_marks.specs.Marks.{fitted}
use Rattle.row_marks.specs.Opposed.{opposers, first_opposer}
use Rattle.row_pairs.specs.Opponents.{named, opponents}
use Rattle.row_pairs.specs.Among.{first_among}
use Rattle.row_pairs.proofs.Opponents.{opponents-paired, opponents-none}
use Rattle.row_pairs.proofs.Firsts.{among_none}

module _ (r : Register) (row : List ℕ) (c : ℕ) (fit : fitted r row ≡ true) where
  pub first-opponents : first_among (opponents r.firsts r.seconds c (pairs r)) row r.clients ≡ first_opposer r row c
  unfolding opposers
  first-opponents = rw fit (ap (λ l. get_or l 0 (length row)) (those-agree _ _ (length row) (λ f h. rw (opponents-paired r (client_of r f) c))))

  -- Where no pair names the client, there is none.
  pub first-unnamed : named r.firsts r.seconds c ≡ 0 → length row ≡ first_opposer r row c
  first-unnamed e = rw (← first-opponents, opponents-none r.firsts r.seconds c e) (sym (among_none row r.clients))
