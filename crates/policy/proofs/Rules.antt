-- Laws of the rules: all that the argument for demand 3 knows of them. What the wall lets pass comes first, what it refuses after it.
use Prim.Native.Nat.{ℕ, ◌<◌}
use mathlib.Core.Path.{◌≡◌, refl}
use mathlib.Core.Logic.{◌⊎◌, inl, inr, ⊎_elim}
use mathlib.Core.Bool.{Bool, true, false, not, ◌&&◌, and-false}
use mathlib.Core.List.{List}
use native.Mathlib.Omega.{arith}
use native.Mathlib.Decide.{ℕ_discrete}
use lib.Dec.{eqb, leb}
use borrow.Author.Tests.{ne_eqb, eqb-true, eqb-false, not-true, leb-true, lt-ltb}
use Rattle.vocabulary.specs.Answer.{answer, judge}
use Rattle.vocabulary.specs.Those.{some, smallest, member}
use Rattle.vocabulary.proofs.Those.{those-empty, some-none, smallest-holds, member-those}
use Rattle.vocabulary.proofs.Judge.{Passed, judge-silent}
use Rattle.vocabulary.proofs.Bools.{both, not-both, true-or-false}
use Rattle.register.specs.Register.{Register, folders, client_of, sanitised}
use Rattle.policy.specs.Conflict.{in_conflict}
use Rattle.policy.specs.Rules.{cell, can_read, can_write, reads, writes, revokes, rival, foreign, at_stake, rivals, foreigners, stakes, lost}
use Rattle.policy.specs.Outcome.{wall_checks, wall_answer, by_wall}

-- A test without which a whole test fails holds where the whole one does.
needed : {whole : Bool} (part : Bool) → whole ≡ true → (part ≡ false → whole ≡ false) → part ≡ true
needed part e without = ⊎_elim (λ t. t) (λ f. not-both e (without f)) (true-or-false part)

-- ---- the kinds

-- Each of the four kinds asks for a right.
pub kind-asks : (kind : ℕ) → (leb 1 kind && leb kind 4) ≡ true → (reads kind ≡ true) ⊎ (writes kind ≡ true)
kind-asks kind e = go (ℕ_discrete kind 1) (ℕ_discrete kind 2) (ℕ_discrete kind 3) (ℕ_discrete kind 4)
  where
    bounds : (leb 1 kind ≡ true) × (leb kind 4 ≡ true)
    bounds = both (leb 1 kind) (leb kind 4) e

    go : Dec (kind ≡ 1) → Dec (kind ≡ 2) → Dec (kind ≡ 3) → Dec (kind ≡ 4) → (reads kind ≡ true) ⊎ (writes kind ≡ true)
    go (yes i) b c d = inl (rw i)
    go (no a) (yes i) c d = inl (rw i)
    go (no a) (no b) (yes i) d = inr (rw i)
    go (no a) (no b) (no c) (yes i) = inl (rw i)
    go (no a) (no b) (no c) (no d) = absurd (omega (arith, leb-true 1 kind bounds.0, leb-true kind 4 bounds.1))

-- A kind that enters a read right takes write rights back, or is the careful read.
reads-cases : (kind : ℕ) → reads kind ≡ true → (revokes kind ≡ true) ⊎ (kind ≡ 2)
reads-cases kind e = go (ℕ_discrete kind 1) (ℕ_discrete kind 2) (ℕ_discrete kind 4)
  where
    go : Dec (kind ≡ 1) → Dec (kind ≡ 2) → Dec (kind ≡ 4) → (revokes kind ≡ true) ⊎ (kind ≡ 2)
    go (yes i) b c = inl (rw i refl)
    go (no a) (yes i) c = inr i
    go (no a) (no b) (yes i) = inl (rw i refl)
    go (no a) (no b) (no c) = not-both e (rw (ne_eqb kind 1 a, ne_eqb kind 2 b, ne_eqb kind 4 c))

-- ---- the three sorts of folder

-- A test that two clients differ holds.
differ : (a b : ℕ) → not (eqb a b) ≡ true → a ≡ b → ⊥
differ a b e = eqb-false a b (not-true (eqb a b) e)

module _ (r : Register) (row : List ℕ) (o f : ℕ) where
  pub rival-read : rival r row o f ≡ true → can_read (cell row f) ≡ true
  rival-read e = needed (can_read (cell row f)) e (λ h. simp h)

  pub rival-conflict : rival r row o f ≡ true → in_conflict r f o ≡ true
  rival-conflict e = needed (in_conflict r f o) e (λ h. rw h (and-false (can_read (cell row f))))

  pub foreign-read : foreign r row o f ≡ true → can_read (cell row f) ≡ true
  foreign-read e = needed (can_read (cell row f)) e (λ h. simp h)

  pub foreign-unsanitised : foreign r row o f ≡ true → client_of r f ≡ 0 → ⊥
  foreign-unsanitised e = differ (client_of r f) 0 (needed (not (sanitised r f)) e (λ h. simp (h, and-false)))

  pub foreign-other : foreign r row o f ≡ true → client_of r f ≡ client_of r o → ⊥
  foreign-other e = differ (client_of r f) (client_of r o) (needed (not (eqb (client_of r f) (client_of r o))) e (λ h. simp (h, and-false)))

  pub stake-write : at_stake r row o f ≡ true → can_write (cell row f) ≡ true
  stake-write e = needed (can_write (cell row f)) e (λ h. simp h)

  pub stake-other : at_stake r row o f ≡ true → client_of r f ≡ client_of r o → ⊥
  stake-other e = differ (client_of r f) (client_of r o) (needed (not (eqb (client_of r f) (client_of r o))) e (λ h. simp (h, and-false)))

  pub stake-unsanitised : at_stake r row o f ≡ true → client_of r o ≡ 0 → ⊥
  stake-unsanitised e = differ (client_of r o) 0 (needed (not (sanitised r o)) e (λ h. simp (h, and-false)))

  pub rival-found : can_read (cell row f) ≡ true → in_conflict r f o ≡ true → rival r row o f ≡ true
  rival-found a c = rw (a, c)

  pub foreign-found : can_read (cell row f) ≡ true → (client_of r f ≡ 0 → ⊥) → (client_of r f ≡ client_of r o → ⊥) → foreign r row o f ≡ true
  foreign-found a c d = simp (a, ne_eqb (client_of r f) 0 c, ne_eqb (client_of r f) (client_of r o) d)

  pub stake-found : can_write (cell row f) ≡ true → (client_of r f ≡ client_of r o → ⊥) → (client_of r o ≡ 0 → ⊥) → at_stake r row o f ≡ true
  stake-found a c d = simp (a, ne_eqb (client_of r f) (client_of r o) c, ne_eqb (client_of r o) 0 d)

module _ (r : Register) (row : List ℕ) (o kind : ℕ) where
  -- ---- what the wall lets pass

  module _ (clear : Passed (wall_checks r row o kind)) where
    pub no-rivals : (f : ℕ) → f < folders r → rival r row o f ≡ false
    unfolding wall_checks rivals
    no-rivals = those-empty (rival r row o) (folders r) (some-none _ clear.0)

    pub no-foreigners : writes kind ≡ true → (f : ℕ) → f < folders r → foreign r row o f ≡ false
    unfolding wall_checks foreigners
    no-foreigners w = those-empty (foreign r row o) (folders r) (some-none _ (rw w at clear.1.0))

    no-stakes : kind ≡ 2 → (f : ℕ) → f < folders r → at_stake r row o f ≡ false
    unfolding wall_checks stakes
    no-stakes w = those-empty (at_stake r row o) (folders r) (some-none _ (rw w at clear.1.1.0))

    -- A kind that takes write rights back lists every folder at stake.
    stake-listed : revokes kind ≡ true → (f : ℕ) → f < folders r → at_stake r row o f ≡ true → member f (lost r row o kind) ≡ true
    unfolding lost
    stake-listed v f h e = rw (member-those, lt-ltb f (folders r) h, v, e)

    -- So a grant that enters a read right lists every folder at stake.
    pub stake-lost : reads kind ≡ true → (f : ℕ) → f < folders r → at_stake r row o f ≡ true → member f (lost r row o kind) ≡ true
    stake-lost w f h e = ⊎_elim (λ v. stake-listed v f h e) (λ v. not-both e (no-stakes v f h)) (reads-cases kind w)

  pub wall-granted : (wall_answer r row o kind).number ≡ 0 → Passed (wall_checks r row o kind) × (wall_answer r row o kind ≡ answer 0 (lost r row o kind))
  unfolding wall_answer wall_checks
  wall-granted e = judge-silent (wall_checks r row o kind) (answer 0 (lost r row o kind)) 0 refl e

  -- ---- what it refuses

  -- A folder that stands in the way: a rival, on a write a foreign one, on a careful read one at stake.
  pub record InTheWay : Type 0 where
    pub folder : ℕ
    pub known : folder < folders r
    pub sort :
        (rival r row o folder ≡ true)
        ⊎ (((writes kind ≡ true) × (foreign r row o folder ≡ true)) ⊎ ((kind ≡ 2) × (at_stake r row o folder ≡ true)))

  -- A refusal by the wall has one.
  pub in-the-way : by_wall (wall_answer r row o kind) ≡ true → InTheWay
  unfolding wall_answer wall_checks judge rivals foreigners stakes
  in-the-way e = by-rival (true-or-false (some (rivals r row o)))
    where
      by-stake : (some (rivals r row o) ≡ false) → (writes kind && some (foreigners r row o)) ≡ false →
          ((eqb kind 2 && some (stakes r row o)) ≡ true) ⊎ ((eqb kind 2 && some (stakes r row o)) ≡ false) → InTheWay
      by-stake a b (inl c) =
          let p = both (eqb kind 2) (some (stakes r row o)) c in
          let f = smallest-holds (at_stake r row o) (folders r) p.1 in
          record {
            folder = smallest (stakes r row o);
            known = f.0;
            sort = inr (inr (eqb-true kind 2 p.0, f.1));
          }
      by-stake a b (inr c) = not-both e (rw (a, b, c))

      by-foreign : (some (rivals r row o) ≡ false) →
          ((writes kind && some (foreigners r row o)) ≡ true) ⊎ ((writes kind && some (foreigners r row o)) ≡ false) → InTheWay
      by-foreign a (inl b) =
          let p = both (writes kind) (some (foreigners r row o)) b in
          let f = smallest-holds (foreign r row o) (folders r) p.1 in
          record {
            folder = smallest (foreigners r row o);
            known = f.0;
            sort = inr (inl (p.0, f.1));
          }
      by-foreign a (inr b) = by-stake a b (true-or-false (eqb kind 2 && some (stakes r row o)))

      by-rival : (some (rivals r row o) ≡ true) ⊎ (some (rivals r row o) ≡ false) → InTheWay
      by-rival (inl a) =
          let f = smallest-holds (rival r row o) (folders r) a in
          record {
            folder = smallest (rivals r row o);
            known = f.0;
            sort = inl f.1;
          }
      by-rival (inr a) = by-foreign a (true-or-false (writes kind && some (foreigners r row o)))
