-- Laws of searches: what a loop has found so far, what the first find means, and what a search lists.
use Prim.Native.Nat.{ℕ, zero, suc, ◌+◌, ◌-◌, ◌≤◌, ◌<◌}
use mathlib.Core.Path.{◌≡◌, refl, ap, ◌∙◌, sym}
use mathlib.Core.Logic.{◌⊎◌, inl, inr, ⊎_elim}
use mathlib.Core.Bool.{Bool, true, false, cond, ◌||◌, ◌&&◌, or-false, or_assoc, false≢true}
use mathlib.Core.List.{List, [], ◌∷◌, ◌++◌, append-nil}
use native.Mathlib.Numerals.{add-one}
use native.Mathlib.Nat.{not-suc-le-zero, add-zero}
use lib.Seq.{take-suc-set, take-set-le}
use native.Mathlib.Omega.{arith}
use native.Mathlib.Decide.{ℕ_discrete, dec_lt}
use lib.Dec.{ltb}
use borrow.Author.Tests.{eq-eqb, ne_eqb, lt-ltb, le-ltb}
use lib.ListN.{length, get_or, take, set}
use Rattle.vocabulary.specs.Those.{those, some, smallest, member}
use Rattle.vocabulary.proofs.Bools.{true-or-false, either, neither, not-both}

pub those-suc : (p : ℕ → Bool) (i : ℕ) → those p (i + 1) ≡ those p i ++ cond (p i) (i ∷ []) []
unfolding those
those-suc p i = rw add-one

pub those-skip : (p : ℕ → Bool) (i : ℕ) → p i ≡ false → those p (i + 1) ≡ those p i
those-skip p i e = rw (those-suc, e, append-nil)

pub those-take : (p : ℕ → Bool) (i : ℕ) → p i ≡ true → those p (i + 1) ≡ those p i ++ (i ∷ [])
those-take p i e = rw (those-suc, e)

-- A loop that has found nothing below i, and does not find i, has found nothing below i + 1.
pub those-none : (p : ℕ → Bool) (i : ℕ) → those p i ≡ [] → p i ≡ false → those p (i + 1) ≡ []
those-none p i e f = rw (those-skip p i f, e)

-- A number below suc n is below n, or n itself.
pub below_suc : {k n : ℕ} → k < suc n → (k < n) ⊎ (k ≡ n)
below_suc {k} {n} h = elim (ℕ_discrete k n) [ yes e ↦ inr e | no d ↦ inl (omega arith) ]

-- A loop that has found nothing below i and finds i: the search's list begins with i.
pub those-found : (p : ℕ → Bool) (i n : ℕ) → those p i ≡ [] → p i ≡ true → i < n → (rest : List ℕ) × (those p n ≡ i ∷ rest)
unfolding those
those-found p i zero e f h = absurd (not-suc-le-zero h)
those-found p i (suc n) e f h = ⊎_elim (λ b. more (those-found p i n e f b)) (λ b. last b) (below_suc h)
  where
    more : (rest : List ℕ) × (those p n ≡ i ∷ rest) → (rest : List ℕ) × (those p n ++ cond (p n) (n ∷ []) [] ≡ i ∷ rest)
    more r = (r.0 ++ cond (p n) (n ∷ []) [], rw r.1)

    last : i ≡ n → (rest : List ℕ) × (those p n ++ cond (p n) (n ∷ []) [] ≡ i ∷ rest)
    last b = ([], rw (← b, e, f))

pub member-append : (k : ℕ) (a b : List ℕ) → member k (a ++ b) ≡ (member k a || member k b)
unfolding member
member-append k [] b = refl
member-append k (x ∷ a) b = rw (member-append k a b, or_assoc)

ltb-suc-other : (k n : ℕ) → (k ≡ n → ⊥) → ltb k (suc n) ≡ ltb k n
ltb-suc-other k n d =
    elim (dec_lt k n) [
      | yes h ↦ lt-ltb k (suc n) (omega arith) ∙ sym (lt-ltb k n h)
      | no h ↦ le-ltb k (suc n) (omega arith) ∙ sym (le-ltb k n (omega arith))
    ]

-- A search lists just the numbers below its bound that pass its test.
pub member-those : (p : ℕ → Bool) (n k : ℕ) → member k (those p n) ≡ (ltb k n && p k)
unfolding those member
member-those p zero k = rw (le-ltb k 0 (omega arith))
member-those p (suc n) k =
    rw (member-append, member-those p n k)
    (elim (ℕ_discrete k n) [ yes i ↦ at (p n) refl i | no d ↦ off (p n) d ])
  where
    at : (b : Bool) → p n ≡ b → k ≡ n → ((ltb k n && p k) || member k (cond b (n ∷ []) [])) ≡ (ltb k (suc n) && p k)
    at true e i = rw (le-ltb k n (omega arith), lt-ltb k (suc n) (omega arith), eq-eqb k n i, i, e)
    at false e i = rw (le-ltb k n (omega arith), lt-ltb k (suc n) (omega arith), i, e)

    off : (b : Bool) → (k ≡ n → ⊥) → ((ltb k n && p k) || member k (cond b (n ∷ []) [])) ≡ (ltb k (suc n) && p k)
    off true d = rw (ne_eqb k n d, ltb-suc-other k n d, or-false)
    off false d = rw (ltb-suc-other k n d, or-false)

-- Where a search finds nothing, nothing fits.
pub those-empty : (p : ℕ → Bool) (n : ℕ) → those p n ≡ [] → (k : ℕ) → k < n → p k ≡ false
unfolding member
those-empty p n e k h = rw (member-those, lt-ltb k n h) at (ap (member k) e)

-- What a search lists is below its bound and passes its test.
pub those-holds : (p : ℕ → Bool) (n k : ℕ) → member k (those p n) ≡ true → (k < n) × (p k ≡ true)
those-holds p n k e = elim (dec_lt k n) [ yes h ↦ (h, inside h) | no h ↦ outside h ]
  where
    inside : k < n → p k ≡ true
    inside h = rw (member-those, lt-ltb k n h) at e

    outside : (k < n → ⊥) → (k < n) × (p k ≡ true)
    outside h = absurd (false≢true (rw (member-those, le-ltb k n (omega arith)) at e))

-- The smallest number that a search found is below its bound and passes its test.
pub smallest-holds : (p : ℕ → Bool) (n : ℕ) → some (those p n) ≡ true → (smallest (those p n) < n) × (p (smallest (those p n)) ≡ true)
unfolding member
smallest-holds p n e = those-holds p n (smallest (those p n)) (head (those p n) e)
  where
    head : (l : List ℕ) → some l ≡ true → member (smallest l) l ≡ true
    head [] e = absurd (false≢true e)
    head (x ∷ xs) e = rw (eq-eqb x x refl)

pub some-none : (l : List ℕ) → some l ≡ false → l ≡ []
some-none [] e = refl
some-none (x ∷ xs) e = absurd (false≢true (sym e))

-- Two tests that agree below the bound find the same numbers.
pub those-agree : (p q : ℕ → Bool) (n : ℕ) → ((k : ℕ) → k < n → p k ≡ q k) → those p n ≡ those q n
unfolding those
those-agree p q zero h = refl
those-agree p q (suc n) h = rw (those-agree p q n (λ k j. h k (omega arith)), h n (omega arith))

-- A test that never passes finds nothing.
pub those-never : (p : ℕ → Bool) (n : ℕ) → ((k : ℕ) → k < n → p k ≡ false) → those p n ≡ []
unfolding those
those-never p zero h = refl
those-never p (suc n) h = rw (those-never p n (λ k j. h k (omega arith)), h n (omega arith))

-- The first number of a search that has found nothing below i and finds i is i, whatever stands for 'none'.
pub first_found : (p : ℕ → Bool) (i n d : ℕ) → those p i ≡ [] → p i ≡ true → i < n → get_or (those p n) 0 d ≡ i
first_found p i n d e f h = rw (those-found p i n e f h).1

-- A search that has come to its bound and has found nothing has the bound for its first number, where that stands for 'none'.
pub first-end : (p : ℕ → Bool) (i n : ℕ) → those p i ≡ [] → i ≤ n → n ≤ i → get_or (those p n) 0 n ≡ i
first-end p i n e below above = let same : i ≡ n = omega arith in rw (← same, e)

-- A search whose first number is below what stands for 'none' found it.
pub first_some : (p : ℕ → Bool) (n d : ℕ) → get_or (those p n) 0 d < d → (some (those p n) ≡ true) × (smallest (those p n) ≡ get_or (those p n) 0 d)
first_some p n d = at (those p n)
  where
    at : (l : List ℕ) → get_or l 0 d < d → (some l ≡ true) × (smallest l ≡ get_or l 0 d)
    at [] h = absurd (omega arith)
    at (x ∷ xs) h = (refl, refl)

-- With the bound for 'none', a search whose first number is not below the bound found nothing.
pub first-none : (p : ℕ → Bool) (n : ℕ) → n ≤ get_or (those p n) 0 n → some (those p n) ≡ false
first-none p n h = at (those p n) (smallest-holds p n) h
  where
    at : (l : List ℕ) → (some l ≡ true → (smallest l < n) × (p (smallest l) ≡ true)) → n ≤ get_or l 0 n → some l ≡ false
    at [] s h = refl
    at (x ∷ xs) s h = absurd (omega (arith, (s refl).0))

-- A search has found something where its first number is below the bound.
pub below-some : (p : ℕ → Bool) (n : ℕ) → ltb (get_or (those p n) 0 n) n ≡ some (those p n)
below-some p n =
    elim (dec_lt (get_or (those p n) 0 n) n) [
      | yes h ↦ lt-ltb (get_or (those p n) 0 n) n h ∙ sym (first_some p n n h).0
      | no h ↦ le-ltb (get_or (those p n) 0 n) n (omega arith) ∙ sym (first-none p n (omega arith))
    ]

-- Whatever stands for 'none', the first number of a search that found something is the smallest.
pub first-smallest : (p : ℕ → Bool) (n d : ℕ) → some (those p n) ≡ true → get_or (those p n) 0 d ≡ smallest (those p n)
first-smallest p n d = at (those p n)
  where
    at : (l : List ℕ) → some l ≡ true → get_or l 0 d ≡ smallest l
    at [] e = absurd (false≢true e)
    at (x ∷ xs) e = refl

-- The first number of a search that found nothing is what stands for 'none'.
pub first_absent : (p : ℕ → Bool) (n d : ℕ) → some (those p n) ≡ false → d ≡ get_or (those p n) 0 d
first_absent p n d e = rw (some-none (those p n) e)

-- A walk that lists as it goes: the next number is stored past the list, and counts if it passes the test.
pub those-list : (p : ℕ → Bool) (list : List ℕ) (n i : ℕ) → n < length list → take n list ≡ those p i →
    take (n + cond (p i) 1 0) (set list n i) ≡ those p (i + 1)
those-list p list n i h e = at (p i) refl
  where
    at : (b : Bool) → p i ≡ b → take (n + cond (p i) 1 0) (set list n i) ≡ those p (i + 1)
    at true f = rw (those-take p i f, f, add-one, take-suc-set list n i h, e)
    at false f = rw (those-skip p i f, f, add-zero, take-set-le n list n i (omega arith)) e

-- Whether a search has found something, one number further.
pub some-those-suc : (p : ℕ → Bool) (i : ℕ) → some (those p (i + 1)) ≡ (some (those p i) || p i)
some-those-suc p i = rw those-suc (at (those p i) (p i))
  where
    at : (l : List ℕ) (b : Bool) → some (l ++ cond b (i ∷ []) []) ≡ (some l || b)
    at [] true = refl
    at [] false = refl
    at (x ∷ xs) b = refl

-- The first number that a loop finds is the smallest.
pub smallest-found : (p : ℕ → Bool) (i n : ℕ) → those p i ≡ [] → p i ≡ true → i < n → i ≡ smallest (those p n)
smallest-found p i n e f h = rw (those-found p i n e f h).1

-- A loop that has come to the bound has searched all.
pub those-end : (p : ℕ → Bool) (i n : ℕ) → n ≤ i → i ≤ n → those p i ≡ those p n
those-end p i n low high = let same : i ≡ n = omega arith in rw same

-- A search over the first numbers and the last ones at once, where these are all: it finds something just where one over all does.
pub some-halves : (p : ℕ → Bool) (half n : ℕ) → half ≤ n → n ≤ half + half →
    some (those (λ i. p i || p (n - half + i)) half) ≡ some (those p n)
some-halves p half n low high = by (true-or-false (some (those q half)))
  where
    q : ℕ → Bool
    q i = p i || p (n - half + i)

    nowhere : some (those q half) ≡ false → (k : ℕ) → k < n → p k ≡ false
    nowhere e k h =
        elim (dec_lt k half) [
          | yes j ↦ (neither (p k) (p (n - half + k)) (those-empty q half (some-none _ e) k j)).0
          | no j ↦
              let i = k - (n - half) in
              let back : n - half + i ≡ k = omega arith in
              rw (← back) (neither (p i) (p (n - half + i)) (those-empty q half (some-none _ e) i (omega arith))).1
        ]

    found : (k : ℕ) → k < n → p k ≡ true → some (those p n) ≡ true
    found k h t = ⊎_elim (λ e. e) (λ e. not-both t (those-empty p n (some-none _ e) k h)) (true-or-false (some (those p n)))

    by : (some (those q half) ≡ true) ⊎ (some (those q half) ≡ false) → some (those q half) ≡ some (those p n)
    by (inl e) =
        let i = smallest (those q half) in
        let s = smallest-holds q half e in
        e ∙ sym (⊎_elim (found i (omega (arith, s.0))) (found (n - half + i) (omega (arith, s.0))) (either (p i) (p (n - half + i)) s.1))
    by (inr e) = e ∙ sym (ap some (those-never p n (nowhere e)))
