-- Laws of tabulated lists: length, elements, filling place by place.
use Prim.Native.Nat.{ℕ, zero, suc, ◌+◌, ◌<◌}
use mathlib.Core.List.{List, [], append_assoc, append-nil}
use mathlib.Core.Path.{◌≡◌, refl, ◌∙◌}
use native.Mathlib.Numerals.{add-one}
use native.Mathlib.Nat.{le_of_eq}
use native.Mathlib.Decide.{le_ind}
use lib.ListN.{length, get_or, set, length-append, get_or-append, drop_of_length-le}
use lib.Seq.{drop-cons, set_at, get_or_at}
use Rattle.packing.specs.Cut.{filled}
use Rattle.packing.specs.Tabulate.{tabulate}

pub length-tabulate : (f : ℕ → ℕ) (n : ℕ) → length (tabulate f n) ≡ n
unfolding tabulate
length-tabulate f zero = refl
length-tabulate f (suc n) = rw (length-append, length-tabulate f n, add-one)

pub get_d_tabulate : (f : ℕ → ℕ) (n i d : ℕ) → i < n → get_or (tabulate f n) i d ≡ f i
unfolding tabulate
get_d_tabulate f n i d h =
    le_ind (λ (m : ℕ). get_or (tabulate f m) i d ≡ f i) (get_or_at (tabulate f i) (f i) [] d i (length-tabulate f i))
    (λ m k e. get_or-append (tabulate f m) _ d i (rw (length-tabulate f m) k) ∙ e) n h

module _ (f : ℕ → ℕ) (l : List ℕ) where
  -- nothing is filled yet
  pub filled_zero : l ≡ filled f 0 l
  unfolding tabulate filled
  filled_zero = refl

  -- one place more
  pub set-filled : {out : List ℕ} {k n v : ℕ} → out ≡ filled f k l → k ≡ n → v ≡ f n → n < length l → set out n v ≡ filled f (n + 1) l
  unfolding tabulate filled
  set-filled {out} {k} {n} {v} done at is h =
      rw (done, at, is, add-one, drop-cons l n 0, append_assoc) (set_at (tabulate f n) _ _ (f n) n (length-tabulate f n))

  -- every place is filled
  pub filled-length : {out : List ℕ} {k n : ℕ} → out ≡ filled f k l → k ≡ n → length l ≡ n → out ≡ tabulate f n
  unfolding filled
  filled-length done at all = rw (done, at, drop_of_length-le l (le_of_eq all), append-nil)
