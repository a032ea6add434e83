-- The wall of an accepted register is lawful, in both modes: conflict by classes and conflict by pairs meet the same few laws.
use Prim.Native.Nat.{ℕ, ◌<◌}
use mathlib.Core.Path.{◌≡◌, refl, sym, ap, ◌∙◌}
use mathlib.Core.Logic.{◌⊎◌, inl, inr, ⊎_elim}
use mathlib.Core.Bool.{Bool, true, false, cond, not, ◌&&◌, ◌||◌, or_comm}
use lib.Dec.{eqb}
use borrow.Author.Tests.{eq-eqb, ne_eqb, eqb-true, eqb-false, not-true}
use Rattle.vocabulary.specs.Those.{those, some, smallest}
use Rattle.vocabulary.proofs.Those.{those-agree, smallest-holds}
use Rattle.vocabulary.proofs.Bools.{both, either, neither}
use Rattle.register.specs.Register.{Register, folders, class_of, client_of, pairs, first_at, second_at, Accepted}
use Rattle.policy.specs.Conflict.{one_class, pair_names, paired, in_conflict}
use Rattle.policy.specs.Wall.{Conflict, wall_of}
use Rattle.policy.proofs.Wall.{Lawful}
use Rattle.policy.proofs.Accepted.{class-zero, client-zero, class-same, pair-sound}

-- What a test on folders that tells conflict has to meet, so that the wall's laws follow: it goes both ways, it tells two clients, neither of them 0,
-- and it tells the same of any other folders of theirs.
pub record ConflictLaws (r : Register) (test : ℕ → ℕ → Bool) : Type 0 where
  pub turned : (f g : ℕ) → test f g ≡ true → test g f ≡ true
  pub two : (f g : ℕ) → test f g ≡ true → client_of r f ≡ client_of r g → ⊥
  pub real : (f g : ℕ) → f < folders r → g < folders r → test f g ≡ true → client_of r f ≡ 0 → ⊥
  pub alike : (f g h k : ℕ) → f < folders r → g < folders r → h < folders r → k < folders r →
      client_of r f ≡ client_of r h → client_of r g ≡ client_of r k → test f g ≡ true → test h k ≡ true

-- ---- by classes

module _ (r : Register) where
  pub class-parts : (f g : ℕ) → one_class r f g ≡ true → (class_of r f ≡ class_of r g) × (client_of r f ≡ client_of r g → ⊥)
  class-parts f g e =
      let p = both (eqb (class_of r f) (class_of r g)) (not (eqb (client_of r f) (client_of r g))) e in
      (eqb-true _ _ p.0, eqb-false _ _ (not-true _ p.1))

  pub class-told : (f g : ℕ) → class_of r f ≡ class_of r g → (client_of r f ≡ client_of r g → ⊥) → one_class r f g ≡ true
  class-told f g a d = rw (eq-eqb (class_of r f) (class_of r g) a, ne_eqb (client_of r f) (client_of r g) d)

  pub by-classes : Accepted r → ConflictLaws r (one_class r)
  by-classes ok =
      record {
        turned = λ f g e. let p = class-parts f g e in class-told g f (sym p.0) (λ i. p.1 (sym i));
        two = λ f g e. (class-parts f g e).1;
        real = λ f g h i e z.
            let p = class-parts f g e in
            p.1 (z ∙ sym (class-zero r ok g i (sym p.0 ∙ client-zero r ok f h z)));
        alike = λ f g h k i j l m a b e.
            let p = class-parts f g e in
            class-told h k
            (sym (class-same r ok f h i l a) ∙ (p.0 ∙ class-same r ok g k j m b))
            (λ c. p.1 (a ∙ (c ∙ sym b)));
      }

-- ---- by pairs

module _ (r : Register) where
  -- A pair that names two clients, whichever way round.
  pub record Named (c d : ℕ) : Type 0 where
    pub place : ℕ
    pub known : place < pairs r
    pub clients : ((first_at r place ≡ c) × (second_at r place ≡ d)) ⊎ ((first_at r place ≡ d) × (second_at r place ≡ c))

  abbrev first : ℕ → ℕ → ℕ
  first c d = smallest (those (pair_names r c d) (pairs r))

  pub pair-named : (c d : ℕ) → paired r c d ≡ true → Named c d
  unfolding paired
  pair-named c d e =
      let p = smallest-holds (pair_names r c d) (pairs r) e in
      record {
        place = first c d;
        known = p.0;
        clients =
            ⊎_elim (λ a. inl (ends (first c d) c d a)) (λ a. inr (ends (first c d) d c a))
            (either (eqb (first_at r (first c d)) c && eqb (second_at r (first c d)) d) (eqb (first_at r (first c d)) d && eqb (second_at r (first c d)) c) p.1);
      }
    where
      ends : (i a b : ℕ) → (eqb (first_at r i) a && eqb (second_at r i) b) ≡ true → (first_at r i ≡ a) × (second_at r i ≡ b)
      ends i a b e = let p = both (eqb (first_at r i) a) (eqb (second_at r i) b) e in (eqb-true _ _ p.0, eqb-true _ _ p.1)

  pub pairs-turned : (c d : ℕ) → paired r c d ≡ paired r d c
  unfolding paired
  pairs-turned c d =
      ap some (those-agree (pair_names r c d) (pair_names r d c) (pairs r) (λ i h. or_comm (eqb (first_at r i) c && eqb (second_at r i) d) _))

  module _ (ok : Accepted r) (mode : r.by_pairs ≡ true) where
    -- The two clients of a pair are two, and neither is 0.
    sound : (i : ℕ) → i < pairs r → (first_at r i ≡ 0 → ⊥) × (second_at r i ≡ 0 → ⊥) × (first_at r i ≡ second_at r i → ⊥)
    sound i h =
        let p = neither (eqb (first_at r i) 0 || eqb (second_at r i) 0) (eqb (first_at r i) (second_at r i)) (pair-sound r ok mode i h) in
        let q = neither (eqb (first_at r i) 0) (eqb (second_at r i) 0) p.0 in
        (eqb-false _ _ q.0, eqb-false _ _ q.1, eqb-false _ _ p.1)

    pair-two : (c d : ℕ) → Named c d → c ≡ d → ⊥
    pair-two c d n i =
        ⊎_elim
        (λ p. (sound n.place n.known).2 (p.0 ∙ (i ∙ sym p.1)))
        (λ p. (sound n.place n.known).2 (p.0 ∙ (sym i ∙ sym p.1)))
        n.clients

    pair-real : (c d : ℕ) → Named c d → c ≡ 0 → ⊥
    pair-real c d n z =
        ⊎_elim
        (λ p. (sound n.place n.known).0 (p.0 ∙ z))
        (λ p. (sound n.place n.known).1 (p.1 ∙ z))
        n.clients

    by-pairs : ConflictLaws r (λ f g. paired r (client_of r f) (client_of r g))
    by-pairs =
        record {
          turned = λ f g e. sym (pairs-turned (client_of r f) (client_of r g)) ∙ e;
          two = λ f g e. pair-two _ _ (pair-named (client_of r f) (client_of r g) e);
          real = λ f g h i e. pair-real _ _ (pair-named (client_of r f) (client_of r g) e);
          alike = λ f g h k i j l m a b e. rw (a, b) at e;
        }

-- ---- either

module _ (r : Register) (ok : Accepted r) where
  pub tells : ConflictLaws r (in_conflict r)
  tells = by r.by_pairs refl
    where
      by : (mode : Bool) → r.by_pairs ≡ mode → ConflictLaws r (λ f g. cond mode (paired r (client_of r f) (client_of r g)) (one_class r f g))
      by true e = by-pairs r ok e
      by false e = by-classes r ok

  pub lawful : Lawful (wall_of r)
  lawful =
      record {
        irreflexive = λ c p. tells.two p.one p.other p.folders-conflict (p.one-client ∙ sym p.other-client);
        symmetric = λ c d p.
            record {
              one = p.other;
              other = p.one;
              one_known = p.other-known;
              other-known = p.one_known;
              one-client = p.other-client;
              other-client = p.one-client;
              folders-conflict = tells.turned p.one p.other p.folders-conflict;
            };
        real = λ c d p z. tells.real p.one p.other p.one_known p.other-known p.folders-conflict (p.one-client ∙ z);
      }

  -- Two folders are of clients in conflict just where these are.
  pub conflict-of : (f g : ℕ) → f < folders r → g < folders r → in_conflict r f g ≡ true → Conflict r (client_of r f) (client_of r g)
  conflict-of f g h i e =
      record {
        one = f;
        other = g;
        one_known = h;
        other-known = i;
        one-client = refl;
        other-client = refl;
        folders-conflict = e;
      }

  pub conflict-told : (f g : ℕ) → f < folders r → g < folders r → Conflict r (client_of r f) (client_of r g) → in_conflict r f g ≡ true
  conflict-told f g h i p =
      tells.alike p.one p.other f g p.one_known p.other-known h i p.one-client p.other-client p.folders-conflict
