-- The row that a grant leaves: that of the rules where lists and folder fit; elsewhere the matrix is as it was.
use Prim.Native.Nat.{ℕ}
use mathlib.Core.Path.{◌≡◌, sym}
use mathlib.Core.Bool.{true, false}
use mathlib.Core.List.{List}
use Rattle.vocabulary.specs.Place.{row_at, with_row_at}
use Rattle.vocabulary.proofs.Place.{with_row_at-row_at}
use Rattle.register.specs.Register.{Register, folders}
use Rattle.policy.specs.Rules.{row_after}
use Rattle.row_labels.specs.Fitting.{fitting}
use Rattle.row_grant.specs.Granted.{row_granted}

pub row_granted-fits : (r : Register) (row : List ℕ) (o kind : ℕ) → fitting r row o ≡ true → row_granted r row o kind ≡ row_after r row o kind
unfolding row_granted
row_granted-fits r row o kind fit = rw fit

pub unfit-left : (r : Register) (m : List ℕ) (start o kind : ℕ) → fitting r (row_at m start (folders r)) o ≡ false →
    m ≡ with_row_at m start (folders r) (row_granted r (row_at m start (folders r)) o kind)
unfolding row_granted
unfit-left r m start o kind e = rw e (sym (with_row_at-row_at m start (folders r)))
