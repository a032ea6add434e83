-- An accepted register by classes can be written out in pairs: each two clients of one class stand there once, by their first folders.
use Prim.Native.Nat.{ℕ, zero, suc, ◌≤◌, ◌<◌}
use mathlib.Core.Path.{◌≡◌, refl, sym, ap, ◌∙◌}
use mathlib.Core.Logic.{◌⊎◌, inl, inr, ⊎_elim}
use mathlib.Core.Bool.{true, false, ◌&&◌, or-true, false≢true}
use mathlib.Core.List.{List, [], ◌∷◌, ◌++◌, map}
use native.Mathlib.Omega.{arith}
use native.Mathlib.Decide.{dec_lt}
use lib.ListN.{length, get_or, replicate, length-append, length-replicate, length-map}
use lib.Dec.{eqb}
use borrow.Author.Tests.{eq-eqb, eqb-true, lt-ltb}
use Rattle.vocabulary.specs.Those.{those, some, smallest, member}
use Rattle.vocabulary.proofs.Those.{those-empty, those-holds, smallest-holds, some-none, member-those, below_suc}
use Rattle.vocabulary.proofs.Bools.{both, either, not-both, true-or-false, eqb-self}
use Rattle.register.specs.Register.{Register, folders, client_of}
use Rattle.policy.specs.Conflict.{one_class, pair_names, paired}
use Rattle.policy.specs.Modes.{in_pairs, OneClassOf, new_client, facing, written_firsts, written_seconds, CanBeWritten}
use Rattle.policy.proofs.Conflict.{ConflictLaws, by-classes, pairs-turned}

-- ---- pairs in two lists

-- The two lists have a pair of a and b, in this order.
abbrev Stands : List ℕ → List ℕ → ℕ → ℕ → Type 0
Stands [] ys a b = ⊥
Stands (x ∷ xs) [] a b = ⊥
Stands (x ∷ xs) (y ∷ ys) a b = ((x ≡ a) × (y ≡ b)) ⊎ Stands xs ys a b

-- It stands at a place.
stands-place : (xs ys : List ℕ) (a b : ℕ) → Stands xs ys a b → (i : ℕ) × (i < length xs) × (get_or xs i 0 ≡ a) × (get_or ys i 0 ≡ b)
stands-place [] ys a b s = absurd s
stands-place (x ∷ xs) [] a b s = absurd s
stands-place (x ∷ xs) (y ∷ ys) a b (inl e) = (0, omega arith, e.0, e.1)
stands-place (x ∷ xs) (y ∷ ys) a b (inr s) = let p = stands-place xs ys a b s in (suc p.0, omega (arith, p.1), p.2, p.3)

place-stands : (xs ys : List ℕ) (i : ℕ) → length xs ≡ length ys → i < length xs → Stands xs ys (get_or xs i 0) (get_or ys i 0)
place-stands [] ys i e h = absurd (omega (arith, h))
place-stands (x ∷ xs) [] i e h = absurd (omega (arith, e))
place-stands (x ∷ xs) (y ∷ ys) zero e h = inl (refl, refl)
place-stands (x ∷ xs) (y ∷ ys) (suc i) e h = inr (place-stands xs ys i (omega (arith, e)) (omega (arith, h)))

-- Lists put behind each other.
stands-left : (xs ys us vs : List ℕ) (a b : ℕ) → Stands xs ys a b → Stands (xs ++ us) (ys ++ vs) a b
stands-left [] ys us vs a b s = absurd s
stands-left (x ∷ xs) [] us vs a b s = absurd s
stands-left (x ∷ xs) (y ∷ ys) us vs a b (inl e) = inl e
stands-left (x ∷ xs) (y ∷ ys) us vs a b (inr s) = inr (stands-left xs ys us vs a b s)

stands-right : (xs ys us vs : List ℕ) (a b : ℕ) → length xs ≡ length ys → Stands us vs a b → Stands (xs ++ us) (ys ++ vs) a b
stands-right [] [] us vs a b e s = s
stands-right [] (y ∷ ys) us vs a b e s = absurd (omega (arith, e))
stands-right (x ∷ xs) [] us vs a b e s = absurd (omega (arith, e))
stands-right (x ∷ xs) (y ∷ ys) us vs a b e s = inr (stands-right xs ys us vs a b (omega (arith, e)) s)

stands-either : (xs ys us vs : List ℕ) (a b : ℕ) → length xs ≡ length ys → Stands (xs ++ us) (ys ++ vs) a b → Stands xs ys a b ⊎ Stands us vs a b
stands-either [] [] us vs a b e s = inr s
stands-either [] (y ∷ ys) us vs a b e s = absurd (omega (arith, e))
stands-either (x ∷ xs) [] us vs a b e s = absurd (omega (arith, e))
stands-either (x ∷ xs) (y ∷ ys) us vs a b e (inl p) = inl (inl p)
stands-either (x ∷ xs) (y ∷ ys) us vs a b e (inr s) = ⊎_elim (λ l. inl (inr l)) inr (stands-either xs ys us vs a b (omega (arith, e)) s)

-- One client paired with several.
module _ (client : ℕ → ℕ) (d : ℕ) where
  stands_one : (gs : List ℕ) (g : ℕ) → member g gs ≡ true → Stands (map client gs) (replicate (length gs) d) (client g) d
  unfolding member
  stands_one [] g m = absurd (false≢true m)
  stands_one (x ∷ gs) g m = ⊎_elim (λ e. inl (ap client (sym (eqb-true g x e)), refl)) (λ e. inr (stands_one gs g e)) (either (eqb g x) (member g gs) m)

  one-stands : (gs : List ℕ) (a b : ℕ) → Stands (map client gs) (replicate (length gs) d) a b → (g : ℕ) × (member g gs ≡ true) × (client g ≡ a) × (d ≡ b)
  unfolding member
  one-stands [] a b s = absurd s
  one-stands (x ∷ gs) a b (inl e) = (x, rw (eqb-self x), e.0, e.1)
  one-stands (x ∷ gs) a b (inr s) = let p = one-stands gs a b s in (p.0, rw p.1 (or-true (eqb p.0 x)), p.2, p.3)

-- ---- the pairs of a register

module _ (r : Register) where
  written-even : (n : ℕ) → length (written_firsts r n) ≡ length (written_seconds r n)
  unfolding written_firsts written_seconds
  written-even zero = refl
  written-even (suc n) = rw (length-append, length-append, length-map, length-replicate, written-even n)

  -- What folder n is put beside.
  facing-holds : (n g : ℕ) → member g (facing r n) ≡ true → (g < n) × (one_class r g n ≡ true)
  unfolding facing member
  facing-holds n g m = by (true-or-false (new_client r n))
    where
      by : (new_client r n ≡ true) ⊎ (new_client r n ≡ false) → (g < n) × (one_class r g n ≡ true)
      by (inl e) =
          let p = those-holds (λ g. new_client r g && one_class r g n) n g (rw e at m) in
          (p.0, (both (new_client r g) (one_class r g n) p.1).1)
      by (inr e) = absurd (false≢true (rw e at m))

  facing-has : (n g : ℕ) → g < n → new_client r n ≡ true → new_client r g ≡ true → one_class r g n ≡ true → member g (facing r n) ≡ true
  unfolding facing
  facing-has n g h a b c = rw (a, member-those (λ g. new_client r g && one_class r g n) n g, lt-ltb g n h, b, c)

  -- What stands among the pairs are two clients of one class.
  stands-class : (n a b : ℕ) → n ≤ folders r → Stands (written_firsts r n) (written_seconds r n) a b → OneClassOf r a b
  unfolding written_firsts written_seconds
  stands-class zero a b h s = absurd s
  stands-class (suc n) a b h s =
      ⊎_elim
      (stands-class n a b (omega (arith, h)))
      (λ t.
      let p = one-stands (client_of r) (client_of r n) (facing r n) a b t in
      let f = facing-holds n p.0 p.1 in
      record {
        one = p.0;
        other = n;
        one_known = omega (arith, f.0, h);
        other-known = omega (arith, h);
        one-client = p.2;
        other-client = p.3;
        alike = f.1;
      })
      (stands-either (written_firsts r n) (written_seconds r n) (map (client_of r) (facing r n)) (replicate (length (facing r n)) (client_of r n)) a b (written-even n) s)

  -- Two first folders of clients of one class are put beside each other.
  first-stands : (n g f : ℕ) → f < n → g < f → new_client r f ≡ true → new_client r g ≡ true → one_class r g f ≡ true →
      Stands (written_firsts r n) (written_seconds r n) (client_of r g) (client_of r f)
  unfolding written_firsts written_seconds
  first-stands zero g f h i a b c = absurd (omega (arith, h))
  first-stands (suc n) g f h i a b c =
      ⊎_elim
      (λ k. stands-left (written_firsts r n) (written_seconds r n) _ _ (client_of r g) (client_of r f) (first-stands n g f k i a b c))
      (λ k.
      rw k
      (stands-right (written_firsts r n) (written_seconds r n) (map (client_of r) (facing r n)) (replicate (length (facing r n)) (client_of r n)) (client_of r g) (client_of r n)
      (written-even n)
      (stands_one (client_of r) (client_of r n) (facing r n) g (facing-has n g (rw k at i) (rw k at a) b (rw k at c)))))
      (below_suc h)

  -- The first folder of a folder's client.
  record First (f : ℕ) : Type 0 where
    folder : ℕ
    early : folder ≤ f
    same : client_of r folder ≡ client_of r f
    new : new_client r folder ≡ true

  first_of : (fuel f : ℕ) → f < fuel → First f
  first_of zero f h = absurd (omega (arith, h))
  first_of (suc fuel) f h = by (λ g i. first_of fuel g (omega (arith, h, i))) (true-or-false (some (those (λ g. eqb (client_of r g) (client_of r f)) f)))
    where
      by : ((g : ℕ) → g < f → First g) →
          (some (those (λ g. eqb (client_of r g) (client_of r f)) f) ≡ true) ⊎ (some (those (λ g. eqb (client_of r g) (client_of r f)) f) ≡ false) → First f
      by earlier (inl e) =
          let s = smallest-holds (λ g. eqb (client_of r g) (client_of r f)) f e in
          let p = earlier (smallest (those (λ g. eqb (client_of r g) (client_of r f)) f)) s.0 in
          record {
            folder = p.folder;
            early = omega (arith, p.early, s.0);
            same = p.same ∙ eqb-true _ _ s.1;
            new = p.new;
          }
      by earlier (inr e) =
          record {
            folder = f;
            early = omega arith;
            same = refl;
            new = rw e;
          }

-- A pair that stands in the lists names its clients.
stands-paired : (r : Register) (firsts seconds : List ℕ) (c d : ℕ) → Stands firsts seconds c d → paired (in_pairs r firsts seconds) c d ≡ true
unfolding paired
stands-paired r firsts seconds c d s = by (true-or-false (some (those (pair_names p c d) (length firsts))))
  where
    p : Register
    p = in_pairs r firsts seconds

    by : (some (those (pair_names p c d) (length firsts)) ≡ true) ⊎ (some (those (pair_names p c d) (length firsts)) ≡ false) →
        some (those (pair_names p c d) (length firsts)) ≡ true
    by (inl e) = e
    by (inr e) =
        let q = stands-place firsts seconds c d s in
        not-both
        (rw (eq-eqb (get_or firsts q.0 0) c q.2, eq-eqb (get_or seconds q.0 0) d q.3))
        (those-empty (pair_names p c d) (length firsts) (some-none _ e) q.0 q.1)

pub can-be-written : CanBeWritten
can-be-written r ok few =
    record {
      equal = written-even r (folders r);
      few = few;
      sound = λ i h. stands-class r (folders r) _ _ (omega arith) (place-stands (written_firsts r (folders r)) (written_seconds r (folders r)) i (written-even r (folders r)) h);
      whole = whole;
    }
  where
    classes : ConflictLaws r (one_class r)
    classes = by-classes r ok

    p : Register
    p = in_pairs r (written_firsts r (folders r)) (written_seconds r (folders r))

    ordered : (f g : ℕ) → f < folders r → g < f → new_client r f ≡ true → new_client r g ≡ true → one_class r g f ≡ true →
        paired p (client_of r g) (client_of r f) ≡ true
    ordered f g h i a b c = stands-paired r _ _ (client_of r g) (client_of r f) (first-stands r (folders r) g f h i a b c)

    whole : (f g : ℕ) → f < folders r → g < folders r → one_class r f g ≡ true → paired p (client_of r f) (client_of r g) ≡ true
    whole f g h i e =
        let a = first_of r (suc f) f (omega arith) in
        let b = first_of r (suc g) g (omega arith) in
        let known-a : a.folder < folders r = omega (arith, a.early, h) in
        let known-b : b.folder < folders r = omega (arith, b.early, i) in
        let alike : one_class r a.folder b.folder ≡ true = classes.alike f g a.folder b.folder h i known-a known-b (sym a.same) (sym b.same) e in
        let two : a.folder ≡ b.folder → ⊥ = λ k. classes.two a.folder b.folder alike (ap (client_of r) k) in
        rw (← a.same, ← b.same)
        (elim (dec_lt a.folder b.folder) [
          | yes k ↦ ordered b.folder a.folder known-b k b.new a.new alike
          | no k ↦
              pairs-turned p (client_of r a.folder) (client_of r b.folder)
              ∙ ordered a.folder b.folder known-a (omega (arith, two, k)) a.new b.new (classes.turned a.folder b.folder alike)
        ])
