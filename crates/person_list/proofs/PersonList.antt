-- Laws of the person list: an entry is its login's person; what 10 lets pass; each login its own number.
use Prim.Native.Nat.{ℕ, zero, suc, ◌-◌, ◌≤◌, ◌<◌}
use mathlib.Core.Path.{◌≡◌, refl, sym, ap, ◌∙◌}
use mathlib.Core.Logic.{⊎_elim}
use mathlib.Core.Bool.{Bool, false, not, ◌||◌, or_assoc}
use mathlib.Core.List.{List, [], ◌∷◌, ◌++◌}
use native.Mathlib.Omega.{arith}
use native.Mathlib.Decide.{ℕ_discrete, dec_lt}
use lib.Bits.{bit_or, or_zero_l, or_add_and, and_le_r}
use lib.ListN.{length, get_or, take, length-append, get_or-append, get_or-eq_default}
use lib.Seq.{get_or_at, take_all, take-append-le}
use lib.Dec.{eqb, leb}
use borrow.Author.Tests.{eqb-true, eq-eqb, ne_eqb, not-false, leb-false, lt-leb, le-leb}
use Rattle.vocabulary.specs.Those.{those, some}
use Rattle.vocabulary.proofs.Those.{below_suc, those-empty, those-never, some-none}
use Rattle.vocabulary.proofs.Bools.{neither}
use Rattle.vocabulary.proofs.Chains.{any-those}
use Rattle.std.specs.List.{list_any}
use Rattle.person_list.specs.PersonList.{nobody, person_of, bad_persons, own_numbers}

-- The person of a login that the list has is its entry.
pub person-entry : (persons : List ℕ) (login : ℕ) → login < length persons → person_of persons login ≡ get_or persons login 0
person-entry [] login h = absurd (omega (arith, h))
person-entry (x ∷ xs) zero h = refl
person-entry (x ∷ xs) (suc login) h = person-entry xs login (omega (arith, h))

pub person-none : (persons : List ℕ) (login : ℕ) → length persons ≤ login → person_of persons login ≡ nobody
person-none persons login h = get_or-eq_default persons nobody h

-- What one more entry adds to what is gathered of those that exceed P less 1; and what two add.
pub gathered_next : (gathered entry p : ℕ) → 1 ≤ p → not (eqb (bit_or gathered (entry - (p - 1))) 0) ≡ (not (eqb gathered 0) || leb p entry)
gathered_next gathered entry p h =
    elim (ℕ_discrete gathered 0) [
      | yes none ↦ rw (none, or_zero_l) (elim (dec_lt entry p) [
        | yes k ↦ rw (eq-eqb (entry - (p - 1)) 0 (omega arith), lt-leb p entry k)
        | no k ↦ rw (ne_eqb (entry - (p - 1)) 0 (λ z. omega arith), le-leb p entry (omega arith))
      ])
      | no some ↦
          let more = or_add_and gathered (entry - (p - 1)) in
          let least = and_le_r gathered (entry - (p - 1)) in
          rw (ne_eqb gathered 0 some, ne_eqb (bit_or gathered (entry - (p - 1))) 0 (λ z. some (omega (arith, more, least, z))))
    ]

pub gathered-both : (gathered one other p : ℕ) → 1 ≤ p →
    not (eqb (bit_or (bit_or gathered (one - (p - 1))) (other - (p - 1))) 0) ≡ (not (eqb gathered 0) || (leb p one || leb p other))
gathered-both gathered one other p h =
    gathered_next (bit_or gathered (one - (p - 1))) other p h
    ∙ ap (λ b. b || leb p other) (gathered_next gathered one p h)
    ∙ or_assoc (not (eqb gathered 0)) (leb p one) (leb p other)

-- Of a list of length P the entries alone are judged.
pub judged-entries : (p : ℕ) (persons : List ℕ) → length persons ≡ p → {found : Bool} → found ≡ list_any (λ e. leb p e) persons → found ≡ bad_persons p persons
unfolding bad_persons
judged-entries p persons whole e =
    rw (eq-eqb (length persons) p whole) (e ∙ any-those (λ e. leb p e) (λ s. leb p (person_of persons s)) persons nobody (λ s h. refl))

-- ---- what 10 lets pass

module _ (p : ℕ) (persons : List ℕ) (pass : bad_persons p persons ≡ false) where
  parts : (not (eqb (length persons) p) ≡ false) × (some (those (λ s. leb p (person_of persons s)) (length persons)) ≡ false)
  unfolding bad_persons
  parts = neither (not (eqb (length persons) p)) (some (those (λ s. leb p (person_of persons s)) (length persons))) pass

  pub list-whole : length persons ≡ p
  list-whole = eqb-true (length persons) p (not-false (eqb (length persons) p) parts.0)

  pub person-below : (login : ℕ) → login < p → person_of persons login < p
  person-below login h =
      leb-false p (person_of persons login)
      (those-empty (λ s. leb p (person_of persons s)) (length persons) (some-none _ parts.1) login (rw list-whole h))

-- Where the list has an entry below P for each login, 10 lets it pass.
pub list-passes : (p : ℕ) (persons : List ℕ) → length persons ≡ p → ((login : ℕ) → login < p → person_of persons login < p) → bad_persons p persons ≡ false
unfolding bad_persons
list-passes p persons whole below =
    rw (
      eq-eqb (length persons) p whole,
      those-never (λ s. leb p (person_of persons s)) (length persons) (λ s h. lt-leb p (person_of persons s) (below s (rw whole at h))),
    )

-- ---- each login its own number

pub own-next : (p : ℕ) → own_numbers (suc p) ≡ own_numbers p ++ (p ∷ [])
unfolding own_numbers those
own-next p = refl

pub own-length : (p : ℕ) → length (own_numbers p) ≡ p
unfolding own_numbers those
own-length zero = refl
own-length (suc p) = rw (length-append, own-length p) (omega arith)

pub own-entry : (p login : ℕ) → login < p → person_of (own_numbers p) login ≡ login
own-entry zero login h = absurd (omega (arith, h))
own-entry (suc p) login h =
    ap (λ (l : List ℕ). person_of l login) (own-next p)
    ∙ ⊎_elim
    (λ k. get_or-append (own_numbers p) (p ∷ []) nobody login (rw (own-length p) k) ∙ own-entry p login k)
    (λ k. rw k (get_or_at (own_numbers p) p [] nobody p (own-length p)))
    (below_suc h)

-- Fewer logins take as many from the list's start.
pub own-take : (p n : ℕ) → p ≤ n → take p (own_numbers n) ≡ own_numbers p
own-take p zero h = let none : p ≡ 0 = omega arith in rw none (take_all 0 (own_numbers 0) (rw (own-length 0) (omega arith)))
own-take p (suc n) h =
    ap (take p) (own-next n)
    ∙ ⊎_elim
    (λ k. take-append-le p (own_numbers n) (n ∷ []) (rw (own-length n) (omega (arith, k))) ∙ own-take p n (omega (arith, k)))
    (λ k. rw k (take_all (suc n) (own_numbers n ++ (n ∷ [])) (rw (length-append, own-length n) (omega arith)) ∙ sym (own-next n)))
    (below_suc {k = p} {n = suc n} (omega (arith, h)))
