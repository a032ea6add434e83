-- The folders lost, where an array has as many places as the row.
use Rattle.std.proofs.Common.{ℕ, List, [], ◌≡◌, ◌≤◌, ◌<◌, length}
use borrow.Author.Tests.{le-leb, lt-leb}
use Rattle.vocabulary.proofs.Bools.{cond_same}
use Rattle.register.specs.Register.{Register}
use Rattle.row.specs.Row.{lost_on}
use Rattle.row_lost.specs.Cut.{lost_within}

module _ (places : ℕ) (r : Register) (row : List ℕ) (o kind : ℕ) where
  pub within-none : lost_on r row o kind ≡ [] → lost_within places r row o kind ≡ []
  unfolding lost_within
  within-none e = rw e (cond_same _ _)

  pub within-short : places < length row → lost_within places r row o kind ≡ []
  unfolding lost_within
  within-short h = rw (lt-leb _ _ h)

  pub within-enough : length row ≤ places → lost_within places r row o kind ≡ lost_on r row o kind
  unfolding lost_within
  within-enough h = rw (le-leb _ _ h)
