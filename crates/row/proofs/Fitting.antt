-- Where lists and folder fit a row, the contracts speak of the wall alone; and what is handed on keeps the answer's number.
use Prim.Native.Nat.{ℕ}
use mathlib.Core.Path.{◌≡◌, sym}
use mathlib.Core.Logic.{◌⊎◌, inl, inr}
use mathlib.Core.Bool.{true, false, not, ◌&&◌}
use mathlib.Core.List.{List}
use lib.ListN.{length}
use lib.Dec.{eqb}
use borrow.Author.Tests.{eqb-true, lt-leb}
use Rattle.vocabulary.specs.Answer.{Answer, judge}
use Rattle.vocabulary.proofs.Bools.{true-or-false}
use Rattle.register.specs.Register.{Register}
use Rattle.policy.specs.Rules.{lost}
use Rattle.policy.specs.Outcome.{wall_answer}
use Rattle.row_labels.specs.Fitting.{fitting}
use Rattle.row_labels.proofs.Fitting.{lists-fitting, folder-in}
use Rattle.register_pairs.specs.Pair.{pairs_fit}
use Rattle.row.specs.Row.{fit_checks, row_answer, ruled, lost_on}

-- What a grant carries is handed on as 0; its number stays.
pub ruled-number : (a : Answer) → (ruled a).number ≡ a.number
ruled-number a = by (true-or-false (eqb a.number 0))
  where
    by : (eqb a.number 0 ≡ true) ⊎ (eqb a.number 0 ≡ false) → (ruled a).number ≡ a.number
    by (inl e) = rw e (sym (eqb-true _ _ e))
    by (inr e) = rw e

module _ (r : Register) (row : List ℕ) (o kind : ℕ) (fit : fitting r row o ≡ true) where
  pub row_answer-fits : (r.by_pairs && not (pairs_fit r)) ≡ false → row_answer r row o kind ≡ wall_answer r row o kind
  unfolding row_answer fit_checks judge
  row_answer-fits pairs = rw (lists-fitting r row o fit, pairs, lt-leb (length row) o (folder-in r row o fit))

  pub lost_on-fits : lost_on r row o kind ≡ lost r row o kind
  unfolding lost_on
  lost_on-fits = rw fit
