-- What a search found: the first folder of those that pass, or none.
use Prim.Native.Nat.{ℕ, ◌+◌, ◌≤◌, ◌<◌, min}
use mathlib.Core.Path.{◌≡◌, refl, sym, ap}
use mathlib.Core.Bool.{Bool, true, false, cond}
use mathlib.Core.List.{List, [], ◌∷◌, ◌++◌}
use native.Mathlib.Omega.{arith}
use lib.ListN.{get_or}
use Rattle.std.specs.Prelude.{Option, Some, None}
use Rattle.std.proofs.lemmas.Option.{none-some}
use Rattle.ids.specs.declared.FolderNo.{FolderNo}
use Rattle.vocabulary.specs.Those.{those, some, smallest}
use Rattle.vocabulary.proofs.Those.{those-suc, those-found, smallest-holds, some-none, first-none}
use Rattle.row.specs.Cut.{first_found}

-- A walk that has found nothing below i finds i, or has come to the bound.
pub found-at : (p : ℕ → Bool) (i n : ℕ) → those p i ≡ [] → p i ≡ true → i < n → Some (record { 0 = i }) ≡ first_found (those p n)
found-at p i n e t h = rw (those-found p i n e t h).1

pub found-none : (p : ℕ → Bool) (i n : ℕ) → those p i ≡ [] → i ≡ n → None ≡ first_found (those p n)
found-none p i n e same = rw (← same, e)

-- The first number, with the bound for 'none'.
pub found-below : (p : ℕ → Bool) (n m : ℕ) → m ≡ get_or (those p n) 0 n → m < n → Some (record { 0 = m }) ≡ first_found (those p n)
found-below p n m = at (those p n)
  where
    at : (l : List ℕ) → m ≡ get_or l 0 n → m < n → Some (record { 0 = m }) ≡ first_found l
    at [] e h = absurd (omega arith)
    at (x ∷ xs) e h = rw e

pub found-end : (p : ℕ → Bool) (n m : ℕ) → m ≡ get_or (those p n) 0 n → n ≤ m → None ≡ first_found (those p n)
found-end p n m e h = rw (some-none (those p n) (first-none p n (rw e at h)))

-- What was found is the smallest; and where nothing was, there is none.
number : Option FolderNo → ℕ
number (Some f) = f.0
number None = 0

pub found-is : (l : List ℕ) {f : FolderNo} → Some f ≡ first_found l → (some l ≡ true) × (smallest l ≡ f.0)
unfolding number
found-is [] e = absurd (none-some _ (sym e))
found-is (x ∷ xs) e = (refl, ap number (sym e))

pub none-is : (l : List ℕ) → None ≡ first_found l → some l ≡ false
none-is [] e = refl
none-is (x ∷ xs) e = absurd (none-some _ e)

-- The first find below i + 1 is the smaller of that below i and of i itself, if i passes the test; n, which is above them, stands for 'none'.
pub least-next : (p : ℕ → Bool) (i n : ℕ) → i < n → min (get_or (those p i) 0 n) (cond (p i) i n) ≡ get_or (those p (i + 1)) 0 n
least-next p i n h = rw those-suc (at (those p i) (λ e. (smallest-holds p i e).0) (p i))
  where
    at : (l : List ℕ) → (some l ≡ true → smallest l < i) → (b : Bool) → min (get_or l 0 n) (cond b i n) ≡ get_or (l ++ cond b (i ∷ []) []) 0 n
    at [] s true = omega arith
    at [] s false = omega arith
    at (x ∷ xs) s true = omega (arith, s refl)
    at (x ∷ xs) s false = omega (arith, s refl)
