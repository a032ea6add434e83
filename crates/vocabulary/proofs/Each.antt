-- Laws of a list changed place by place.
use Prim.Native.Nat.{ℕ, zero, suc, ◌+◌, ◌<◌, zero-le, suc-le-suc}
use mathlib.Core.Path.{◌≡◌, refl, ap}
use mathlib.Core.List.{List, [], ◌∷◌}
use native.Mathlib.Nat.{le_of_suc-le-suc, not-suc-le-zero}
use native.Mathlib.Numerals.{add-one}
use lib.ListN.{length, get_or, set}
use Rattle.vocabulary.specs.Each.{each}

pub length-each : (f : ℕ → ℕ → ℕ) (l : List ℕ) → length (each f l) ≡ length l
unfolding each
length-each f [] = refl
length-each f (x ∷ l) = ap suc (length-each (λ i. f (suc i)) l)

pub get_d-each : (f : ℕ → ℕ → ℕ) (l : List ℕ) (i d : ℕ) → i < length l → get_or (each f l) i d ≡ f i (get_or l i d)
unfolding each
get_d-each f [] i d h = absurd (not-suc-le-zero h)
get_d-each f (x ∷ l) zero d h = refl
get_d-each f (x ∷ l) (suc i) d h = get_d-each (λ j. f (suc j)) l i d (le_of_suc-le-suc h)

-- The list of which a loop has changed the first n places.
unfoldable pub up_to : (ℕ → ℕ → ℕ) → ℕ → List ℕ → List ℕ
up_to f zero l = l
up_to f (suc n) [] = []
up_to f (suc n) (x ∷ l) = f 0 x ∷ up_to (λ i. f (suc i)) n l

pub length-up_to : (f : ℕ → ℕ → ℕ) (n : ℕ) (l : List ℕ) → length (up_to f n l) ≡ length l
unfolding up_to
length-up_to f zero l = refl
length-up_to f (suc n) [] = refl
length-up_to f (suc n) (x ∷ l) = ap suc (length-up_to (λ i. f (suc i)) n l)

-- The next place is as it was.
pub get_d-up_to : (f : ℕ → ℕ → ℕ) (n : ℕ) (l : List ℕ) (d : ℕ) → get_or (up_to f n l) n d ≡ get_or l n d
unfolding up_to
get_d-up_to f zero l d = refl
get_d-up_to f (suc n) [] d = refl
get_d-up_to f (suc n) (x ∷ l) d = get_d-up_to (λ i. f (suc i)) n l d

up_to-suc : (f : ℕ → ℕ → ℕ) (n : ℕ) (l : List ℕ) (d : ℕ) → n < length l → set (up_to f n l) n (f n (get_or l n d)) ≡ up_to f (suc n) l
unfolding up_to
up_to-suc f zero [] d h = absurd (not-suc-le-zero h)
up_to-suc f (suc n) [] d h = absurd (not-suc-le-zero h)
up_to-suc f zero (x ∷ l) d h = refl
up_to-suc f (suc n) (x ∷ l) d h = ap (λ (t : List ℕ). f 0 x ∷ t) (up_to-suc (λ i. f (suc i)) n l d (le_of_suc-le-suc h))

-- One place more.
pub up_to-next : (f : ℕ → ℕ → ℕ) (n : ℕ) (l : List ℕ) → n < length l → set (up_to f n l) n (f n (get_or (up_to f n l) n 0)) ≡ up_to f (n + 1) l
up_to-next f n l h = rw (get_d-up_to f n l 0, add-one) (up_to-suc f n l 0 h)

pub up_to-all : (f : ℕ → ℕ → ℕ) (l : List ℕ) → up_to f (length l) l ≡ each f l
unfolding up_to each
up_to-all f [] = refl
up_to-all f (x ∷ l) = ap (λ (t : List ℕ). f 0 x ∷ t) (up_to-all (λ i. f (suc i)) l)

-- Two functions that agree at every place make the same of a list.
pub each-agree : (f g : ℕ → ℕ → ℕ) (l : List ℕ) → ((i : ℕ) → i < length l → f i (get_or l i 0) ≡ g i (get_or l i 0)) → each f l ≡ each g l
unfolding each
each-agree f g [] h = refl
each-agree f g (x ∷ l) h =
    rw (h 0 (suc-le-suc zero-le), each-agree (λ i. f (suc i)) (λ i. g (suc i)) l (λ i k. h (suc i) (suc-le-suc k)))
