-- What the search for refusal 3 answers, case by case, by the first finds.
use Prim.Native.Nat.{ℕ, ◌<◌}
use mathlib.Core.Path.{◌≡◌, sym, ◌∙◌}
use mathlib.Core.Bool.{true, false, false≢true}
use mathlib.Core.List.{[], ◌∷◌}
use Rattle.std.specs.Prelude.{Some, None, slice_get}
use Rattle.vocabulary.specs.Answer.{answer, judge}
use Rattle.register.specs.Register.{Register, folders, earlier, later}
use Rattle.register_search.specs.Search.{searched, search_answer}
use Rattle.register_search.proofs.First.{found, nothing, first-holds}

module _ (r : Register) where
  pub unsearched : searched r ≡ false → search_answer r ≡ answer 0 []
  unfolding search_answer judge
  unsearched out = rw out

  pub search-none : searched r ≡ true → None ≡ slice_get (later r) 0 → search_answer r ≡ answer 0 []
  unfolding search_answer judge
  search-none fits never = rw (fits, nothing (later r) never)

  module _ (f : ℕ) (first : Some f ≡ slice_get (later r) 0) where
    pub search-found : (g : ℕ) → searched r ≡ true → Some g ≡ slice_get (earlier r f) 0 → search_answer r ≡ answer 3 (f ∷ g ∷ [])
    unfolding search_answer judge
    search-found g fits before = rw (fits, (found (later r) f first).0, (found (later r) f first).1, (found (earlier r f) g before).1)

    pub later-below : f < folders r
    unfolding later
    later-below = (first-holds _ (folders r) f first).0

    -- The folder that is found differs from an earlier one.
    pub search-sure : None ≡ slice_get (earlier r f) 0 → ⊥
    unfolding later
    search-sure none = false≢true (sym (nothing (earlier r f) none) ∙ (first-holds _ (folders r) f first).1)

pub earlier-below : (r : Register) (f g : ℕ) → Some g ≡ slice_get (earlier r f) 0 → g < f
unfolding earlier
earlier-below r f g before = (first-holds _ f g before).0
