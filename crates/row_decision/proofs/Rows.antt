-- Rows 1, 8 and 9 of the table, case by case, whatever is answered past them; and lists that do not fit the row.
use Prim.Native.Nat.{ℕ, ◌≤◌, ◌<◌}
use mathlib.Core.Path.{◌≡◌}
use mathlib.Core.Bool.{false}
use mathlib.Core.List.{List, []}
use lib.ListN.{length}
use borrow.Author.Tests.{le-ltb, lt-ltb}
use Rattle.vocabulary.specs.Answer.{Answer, answer, judge}
use Rattle.ids.specs.declared.FolderNo.{FolderNo}
use Rattle.register.specs.Register.{Register}
use Rattle.response.specs.Response.{response_answer}
use Rattle.std.specs.Prelude.{Err}
use Rattle.register.specs.declared.RegisterFault.TheVariants.{OutOfRange}
use Rattle.response.specs.declared.Refusal.TheVariants.{BadCell, BadEnd}
use Rattle.response.specs.declared.Refusal.TheVariants as refusal
use Rattle.policy.specs.Outcome.{Request}
use Rattle.cells.specs.Above.{first_above}
use Rattle.cells.proofs.Above.{above-found, above-none}
use Rattle.row_labels.specs.Fitting.{lists_fit}
use Rattle.row.specs.Row.{fit_checks, row_answer, ruled}
use Rattle.row_decision.specs.Decision.{row_checks, served_answer}

module _ (row : List ℕ) (size end : ℕ) (x : Answer) where
  pub judged-long : 512 < length row → response_answer (Err (refusal.Register OutOfRange)) ≡ ruled (judge (row_checks row size end) x)
  unfolding row_checks judge
  judged-long n = rw (lt-ltb 512 (length row) n)

  module _ (few : length row ≤ 512) where
    pub judged-large : (f : FolderNo) → f.0 ≡ first_above row → f.0 < length row →
        response_answer (Err (BadCell f)) ≡ ruled (judge (row_checks row size end) x)
    unfolding row_checks judge
    judged-large f e h = let a = above-found row (rw e at h) in rw (e, le-ltb 512 (length row) few, a.0, a.1)

    module _ {first : ℕ} (e : first ≡ first_above row) (none : length row ≤ first) where
      pub judged-end : size < end → response_answer (Err BadEnd) ≡ ruled (judge (row_checks row size end) x)
      unfolding row_checks judge
      judged-end h = rw (le-ltb 512 (length row) few, above-none row (rw e at none), lt-ltb size end h)

      pub judged-past : end ≤ size → {a : Answer} → a ≡ ruled x → a ≡ ruled (judge (row_checks row size end) x)
      unfolding row_checks judge
      judged-past h i = rw (i, le-ltb 512 (length row) few, above-none row (rw e at none), le-ltb size end h)

-- Lists that do not fit the row get 1, past rows 8 and 9.
pub served-unfit : (r : Register) (row : List ℕ) (q : Request) (size end : ℕ) → lists_fit r row ≡ false →
    served_answer r row q size end ≡ judge (row_checks row size end) (answer 1 [])
unfolding served_answer row_answer fit_checks judge
served-unfit r row q size end e = rw e
