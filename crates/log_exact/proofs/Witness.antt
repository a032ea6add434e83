-- For every well-formed record a request that writes it, by classes or by pairs: any number of logins that has the record's, and 512 folders, of
-- which the record's has class 1 and client 1 and all others client 2, of class 1 for answer 20 and of class 2 otherwise; the pair of 1 and 2 for
-- answer 20, and none otherwise; and rights of every person on just the listed folders, to read for 20 and 21 and to write for 0 and 22. So any
-- person list will do.
use Prim.Native.Nat.{ℕ, zero, suc, ◌+◌, ◌-◌, ◌*◌, ◌%◌, ◌≤◌, ◌<◌}
use native.Mathlib.Omega.{arith}
use mathlib.Core.Path.{◌≡◌, refl, sym, ap, ◌∙◌}
use mathlib.Core.Logic.{◌⊎◌, inl, inr, ⊎_elim}
use mathlib.Core.Bool.{Bool, true, false, cond, not, ◌&&◌, ◌||◌, and-false, and_assoc, false≢true}
use mathlib.Core.List.{List, [], ◌∷◌}
use lib.ListN.{length, get_or, drop, replicate, length-replicate, get_or-eq_default}
use lib.Seq.{get_or-take, get_or-drop}
use lib.Dec.{eqb, leb, ltb}
use borrow.Author.Tests.{le-ltb, lt-leb, le-leb, eqb-true, eqb-false, not-false}
use Rattle.vocabulary.specs.Answer.{Answer, answer, judge}
use Rattle.vocabulary.specs.Each.{each}
use Rattle.vocabulary.specs.Those.{those, some, smallest, member}
use Rattle.vocabulary.proofs.Each.{length-each, get_d-each}
use Rattle.vocabulary.proofs.Those.{those-agree, those-never}
use Rattle.vocabulary.proofs.Judge.{Passed, judge-append, judge-passed}
use Rattle.vocabulary.proofs.Order.{lt-or-le}
use Rattle.vocabulary.proofs.Bools.{neither, eqb-self, true-or-false, cond_same}
use Rattle.person_list.specs.PersonList.{person_of, bad_persons}
use Rattle.person_list.proofs.PersonList.{person-none, person-below, list-whole}
use Rattle.register.specs.Register.{Register, register_by, folders, class_of, client_of, exactly_one, lone_zero, differs, earlier, later, bad_pairs, register_checks, Accepted}
use Rattle.policy.specs.Conflict.{paired, in_conflict}
use Rattle.log_fields.specs.Rule.{can_answer, bad_count}
use Rattle.log_bytes.specs.Record.{Record, record_bytes}
use Rattle.log_records.specs.WellFormed.{WellFormed}
use Rattle.policy.specs.Rules.{row_of, cell, writes, revokes, rival, foreign, at_stake, rivals, foreigners, stakes, lost}
use Rattle.policy.specs.Outcome.{Request, Log, request_checks, wall_checks, wall_answer, decision, outcome, logged, is_logged, record_of}
use Rattle.policy.proofs.Accepted.{passed-accepted}
use Rattle.log_exact.specs.Exact.{LoggedRequest, recorded, CanBeMade}
use Rattle.log_fields.proofs.Accepted.{Answers, answer-cases}
use Rattle.log_exact.proofs.Rising.{rising-without, those-rising}

-- ---- the answers that the wall gives where it finds the listed folders or none

-- The wall's table, where the rivals, the foreign folders, those at stake and those lost are the listed folders or none.
abbrev walled : (kind given : ℕ) → List ℕ → Answer
walled kind given list =
    let reading : Bool = eqb given 20 || eqb given 21 in
    let rivals : List ℕ = cond (eqb given 20) list [] in
    let foreigners : List ℕ = cond reading list [] in
    let stakes : List ℕ = cond (not reading) list [] in
    let lost : List ℕ = cond (revokes kind && not reading) list [] in
    cond (some rivals) (answer 20 (smallest rivals ∷ []))
    (cond (writes kind && some foreigners) (answer 21 (smallest foreigners ∷ []))
    (cond (eqb kind 2 && some stakes) (answer 22 (smallest stakes ∷ [])) (answer 0 lost)))

-- The count rule, taken apart.
count-parts : (kind given n : ℕ) → bad_count kind given n ≡ false →
    ((not (eqb given 0) && not (eqb n 1)) ≡ false) × ((eqb given 0 && (eqb kind 2 || eqb kind 3) && not (eqb n 0)) ≡ false)
count-parts kind given n e =
    neither (not (eqb given 0) && not (eqb n 1)) (eqb given 0 && (eqb kind 2 || eqb kind 3) && not (eqb n 0))
    (neither ((not (eqb given 0) && not (eqb n 1)) || (eqb given 0 && (eqb kind 2 || eqb kind 3) && not (eqb n 0))) (ltb 511 n) e).0

list-one : (l : List ℕ) → length l ≡ 1 → (x : ℕ) × (l ≡ x ∷ [])
list-one [] h = absurd (omega arith)
list-one (x ∷ []) h = (x, refl)
list-one (x ∷ y ∷ l) h = absurd (omega arith)

list-none : (l : List ℕ) → length l ≡ 0 → l ≡ []
list-none [] h = refl
list-none (x ∷ l) h = absurd (omega arith)

-- A refusal lists one folder.
refused-one : (kind given : ℕ) (l : List ℕ) → eqb given 0 ≡ false → bad_count kind given (length l) ≡ false → (x : ℕ) × (l ≡ x ∷ [])
refused-one kind given l d e =
    list-one l (eqb-true (length l) 1 (not-false (eqb (length l) 1) (rw d at (count-parts kind given (length l) e).0)))

-- A grant of kind 2 or 3 lists none.
granted-none : (kind : ℕ) (l : List ℕ) → (eqb kind 2 || eqb kind 3) ≡ true → bad_count kind 0 (length l) ≡ false → l ≡ []
granted-none kind l k e =
    list-none l (eqb-true (length l) 0 (not-false (eqb (length l) 0) (rw k at (count-parts kind 0 (length l) e).1)))

walled-0 : (kind : ℕ) (l : List ℕ) → (1 ≤ kind) × (kind ≤ 4) → bad_count kind 0 (length l) ≡ false → walled kind 0 l ≡ answer 0 l
walled-0 kind l h e = by (true-or-false (eqb kind 2 || eqb kind 3)) (true-or-false (eqb kind 1))
  where
    by : ((eqb kind 2 || eqb kind 3) ≡ true) ⊎ ((eqb kind 2 || eqb kind 3) ≡ false) → (eqb kind 1 ≡ true) ⊎ (eqb kind 1 ≡ false) →
        walled kind 0 l ≡ answer 0 l
    by (inl k) one = rw (granted-none kind l k e, and-false (writes kind), and-false (eqb kind 2), cond_same {A = List ℕ} (revokes kind && true) [])
    by (inr k) (inl one) = rw (eqb-true kind 1 one)
    by (inr k) (inr one) =
        let d = neither (eqb kind 2) (eqb kind 3) k in
        let four : kind ≡ 4 = omega (arith, h.0, h.1, eqb-false kind 1 one, eqb-false kind 2 d.0, eqb-false kind 3 d.1) in
        rw four

walled-right : (kind given : ℕ) (l : List ℕ) → (1 ≤ kind) × (kind ≤ 4) → can_answer kind given ≡ true → bad_count kind given (length l) ≡ false →
    walled kind given l ≡ answer given l
walled-right kind given l h a c = go (answer-cases kind given a)
  where
    one : eqb given 0 ≡ false → (x : ℕ) × (l ≡ x ∷ [])
    one d = refused-one kind given l d c

    go : Answers kind given → walled kind given l ≡ answer given l
    go (inl n) = rw n (walled-0 kind l h (rw n at c))
    go (inr (inl n)) = rw (n, (one (rw n)).1)
    go (inr (inr (inl n))) = rw (n.0, n.1, (one (rw n.0)).1)
    go (inr (inr (inr n))) = rw (n.0, eqb-true kind 2 n.1, (one (rw n.0)).1)

-- Each answer that a kind can have is logged.
can-logged : (kind given : ℕ) → can_answer kind given ≡ true → (eqb given 0 || (eqb given 20 || eqb given 21 || eqb given 22)) ≡ true
can-logged kind given e = go (answer-cases kind given e)
  where
    go : Answers kind given → (eqb given 0 || (eqb given 20 || eqb given 21 || eqb given 22)) ≡ true
    go (inl n) = rw n
    go (inr (inl n)) = rw n
    go (inr (inr (inl n))) = rw n.0
    go (inr (inr (inr n))) = rw n.0

-- ---- the witness

-- A list given by a function of the place.
list_of : ℕ → (ℕ → ℕ) → List ℕ
list_of n g = each (λ i x. g i) (replicate n 0)

length-list_of : (n : ℕ) (g : ℕ → ℕ) → length (list_of n g) ≡ n
unfolding list_of
length-list_of n g = rw (length-each, length-replicate)

get_d-list_of : (n : ℕ) (g : ℕ → ℕ) (i : ℕ) → i < n → get_or (list_of n g) i 0 ≡ g i
unfolding list_of
get_d-list_of n g i h = get_d-each (λ i x. g i) (replicate n 0) i 0 (rw length-replicate h)

get_d-zeros : (n i : ℕ) → ◌≡◌ {A = ℕ} (get_or (replicate n 0) i 0) 0
get_d-zeros zero i = refl
get_d-zeros (suc n) zero = refl
get_d-zeros (suc n) (suc i) = get_d-zeros n i

get_d_past : (n : ℕ) (g : ℕ → ℕ) (i : ℕ) → n ≤ i → get_or (list_of n g) i 0 ≡ 0
get_d_past n g i h = let past : length (list_of n g) ≤ i = rw (length-list_of n g) h in get_or-eq_default (list_of n g) 0 past

-- A bound on what the function gives is one on the list's elements.
list_of-most : (n most : ℕ) (g : ℕ → ℕ) → ((i : ℕ) → g i ≤ most) → (i : ℕ) → get_or (list_of n g) i 0 ≤ most
list_of-most n most g h i =
    ⊎_elim (λ inside. rw (get_d-list_of n g i inside) (h i)) (λ past. rw (get_d_past n g i past) (omega arith)) (lt-or-le i n)

cond-most : {x y most : ℕ} (b : Bool) → x ≤ most → y ≤ most → cond b x y ≤ most
cond-most true p q = p
cond-most false p q = q

module _ (e : Record) (by_pairs : Bool) (p : ℕ) (ps : List ℕ) (few : p ≤ 128) (pass : bad_persons p ps ≡ false) (here : e.login < p) where
  -- A read right has to be asked of the listed folders.
  abbrev reading : Bool
  reading = eqb e.answer 20 || eqb e.answer 21

  abbrev class_at : ℕ → ℕ
  class_at f = cond (eqb f e.folder) 1 (cond (eqb e.answer 20) 1 2)

  abbrev client_at : ℕ → ℕ
  client_at f = cond (eqb f e.folder) 1 2

  abbrev cell_at : ℕ → ℕ
  cell_at f = cond (member f e.list) (cond reading 1 2) 0

  -- The list with a client of the one pair.
  abbrev paired-with : ℕ → List ℕ
  paired-with c = cond (eqb e.answer 20) (c ∷ []) []

  abbrev register : Register
  register = register_by p (list_of 512 class_at) (list_of 512 client_at) by_pairs (paired-with 1) (paired-with 2)

  abbrev matrix : List ℕ
  matrix = list_of (p * 512) (λ i. cell_at (i % 512))

  abbrev request : Request
  request =
      record {
        login = e.login;
        folder = e.folder;
        kind = e.kind;
      }

  abbrev log : Log
  log =
      record {
        bytes = replicate (length (record_bytes e)) 0;
        end = 0;
        serial = e.serial;
      }

  paired-most : (c : ℕ) → c ≤ 65535 → (i : ℕ) → get_or (paired-with c) i 0 ≤ 65535
  paired-most c h i = by (eqb e.answer 20) i
    where
      by : (b : Bool) (i : ℕ) → get_or (cond b (c ∷ []) []) i 0 ≤ 65535
      by true zero = h
      by true (suc i) = omega arith
      by false i = omega arith

  -- ---- the register is accepted

  folders-512 : folders register ≡ 512
  folders-512 = length-list_of 512 class_at

  class-at : (f : ℕ) → f < 512 → class_of register f ≡ class_at f
  class-at f h = get_d-list_of 512 class_at f h

  client-at : (f : ℕ) → f < 512 → client_of register f ≡ client_at f
  client-at f h = get_d-list_of 512 client_at f h

  no-lone-zero : (f : ℕ) → f < 512 → lone_zero register f ≡ false
  no-lone-zero f h = rw (class-at f h, client-at f h) (by (eqb f e.folder) (eqb e.answer 20))
    where
      by : (a b : Bool) → exactly_one (eqb (cond a 1 (cond b 1 2)) 0) (eqb (cond a 1 2) 0) ≡ false
      by true b = refl
      by false true = refl
      by false false = refl

  no_difference : (f g : ℕ) → f < 512 → g < 512 → differs register f g ≡ false
  no_difference f g h k =
      rw (class-at f h, client-at f h, class-at g k, client-at g k) (by (eqb f e.folder) (eqb g e.folder) (eqb e.answer 20))
    where
      by : (a b c : Bool) → (eqb (cond b 1 2) (cond a 1 2) && not (eqb (cond b 1 (cond c 1 2)) (cond a 1 (cond c 1 2)))) ≡ false
      by true true c = refl
      by true false c = refl
      by false true c = refl
      by false false true = refl
      by false false false = refl

  no-bad-pair : bad_pairs register ≡ false
  unfolding bad_pairs those
  no-bad-pair = by (eqb e.answer 20)
    where
      by : (b : Bool) → bad_pairs (register_by p (list_of 512 class_at) (list_of 512 client_at) by_pairs (cond b (1 ∷ []) []) (cond b (2 ∷ []) [])) ≡ false
      by true = refl
      by false = refl

  register-passed : Passed (register_checks register)
  unfolding register_checks later earlier
  register-passed = (
    rw (folders-512, length-list_of 512 client_at, le-leb 1 p (omega (arith, here)), le-leb p 128 few),
    (
      rw (those-never (lone_zero register) (folders register) (λ f h. no-lone-zero f (rw folders-512 at h))),
      (
        rw
            (those-never (λ f. some (earlier register f)) (folders register)
            (λ f h. rw (those-never (differs register f) f (λ g k. no_difference f g (rw folders-512 at h) (omega (arith, rw folders-512 at h)))))),
        (
          rw no-bad-pair (and-false by_pairs),
          tt,
        ),
      ),
    ),
  )

  register-accepted : Accepted register
  register-accepted = passed-accepted register register-passed

  -- ---- the row shows the listed folders

  abbrev row : List ℕ
  row = row_of register matrix (person_of ps e.login)

  module _ (w : WellFormed e) where
    -- The login's person is one of the house's.
    known : person_of ps e.login < p
    known = person-below p ps pass e.login here

    cell-at : (f : ℕ) → f < 512 → cell row f ≡ cell_at f
    cell-at f h =
        let s = person_of ps e.login in
        let own : (s * 512 + f) % 512 ≡ f = omega arith in
        rw (folders-512, get_or-take 512 (drop (s * 512) matrix) f 0 h, get_or-drop (s * 512) matrix f 0, get_d-list_of (p * 512) (λ i. cell_at (i % 512)) (s * 512 + f) (omega (arith, known)), own)

    request-passed : Passed (request_checks register ps matrix request log)
    unfolding request_checks
    request-passed = (
      rw (folders-512, length-list_of (p * 512) (λ i. cell_at (i % 512)), eqb-self (p * 512)),
      (
        lt-leb p e.login here,
        (
          pass,
          (
            rw folders-512 (lt-leb 512 e.folder (omega (arith, w.folder))),
            (
              rw (le-leb 1 e.kind w.kind.0, le-leb e.kind 4 w.kind.1),
              (
                rw (those-never (λ f. ltb 3 (cell row f)) (folders register) (λ f h. small f (rw folders-512 at h))),
                (
                  le-ltb (length log.bytes) 0 (omega arith),
                  tt,
                ),
              ),
            ),
          ),
        ),
      ),
    )
      where
        by : (a b : Bool) → ltb 3 (cond a (cond b 1 2) 0) ≡ false
        by true true = refl
        by true false = refl
        by false b = refl

        small : (f : ℕ) → f < 512 → ltb 3 (cell row f) ≡ false
        small f h = rw (cell-at f h) (by (member f e.list) reading)

    -- ---- what the wall finds

    own_at : (f : ℕ) → eqb f e.folder ≡ true → member f e.list ≡ false
    own_at f own = rw (eqb-true f e.folder own) (rising-without e.folder e.list w.list)

    own-known : e.folder < 512
    own-known = omega (arith, w.folder)

    -- The record's folder is of a client in conflict with all others', for answer 20.
    conflict-at : (f : ℕ) → f < 512 → in_conflict register f e.folder ≡ (eqb e.answer 20 && not (eqb f e.folder))
    unfolding paired those
    conflict-at f h =
        rw (class-at f h, class-at e.folder own-known, client-at f h, client-at e.folder own-known, eqb-self e.folder)
        (by by_pairs (eqb f e.folder) (eqb e.answer 20))
      where
        by : (mode own t : Bool) →
            cond mode
            (paired (register_by p (list_of 512 class_at) (list_of 512 client_at) by_pairs (cond t (1 ∷ []) []) (cond t (2 ∷ []) [])) (cond own 1 2) 1)
            (eqb (cond own 1 (cond t 1 2)) 1 && not (eqb (cond own 1 2) 1))
            ≡ (t && not own)
        by true true true = refl
        by true true false = refl
        by true false true = refl
        by true false false = refl
        by false true true = refl
        by false true false = refl
        by false false true = refl
        by false false false = refl

    rival-at : (f : ℕ) → f < 512 → rival register row e.folder f ≡ (eqb e.answer 20 && member f e.list)
    rival-at f h =
        rw (cell-at f h, conflict-at f h) (by (member f e.list) (eqb f e.folder) (eqb e.answer 20) (eqb e.answer 21) (own_at f))
      where
        by : (mem own t u : Bool) → (own ≡ true → mem ≡ false) → (eqb (cond mem (cond (t || u) 1 2) 0 % 2) 1 && (t && not own)) ≡ (t && mem)
        by false own t u d = sym (and-false t)
        by true true t u d = absurd (false≢true (sym (d refl)))
        by true false true u d = refl
        by true false false true d = refl
        by true false false false d = refl

    foreign-at : (f : ℕ) → f < 512 → foreign register row e.folder f ≡ (reading && member f e.list)
    foreign-at f h =
        rw (cell-at f h, client-at f h, client-at e.folder own-known, eqb-self e.folder)
        (by (member f e.list) (eqb f e.folder) reading (own_at f))
      where
        by : (mem own t : Bool) → (own ≡ true → mem ≡ false) →
            (eqb (cond mem (cond t 1 2) 0 % 2) 1 && not (eqb (cond own 1 2) 0) && not (eqb (cond own 1 2) 1)) ≡ (t && mem)
        by false own t d = sym (and-false t)
        by true true t d = absurd (false≢true (sym (d refl)))
        by true false true d = refl
        by true false false d = refl

    stake-at : (f : ℕ) → f < 512 → at_stake register row e.folder f ≡ (not reading && member f e.list)
    stake-at f h =
        rw (cell-at f h, client-at f h, client-at e.folder own-known, eqb-self e.folder)
        (by (member f e.list) (eqb f e.folder) reading (own_at f))
      where
        by : (mem own t : Bool) → (own ≡ true → mem ≡ false) →
            (leb 2 (cond mem (cond t 1 2) 0) && not (eqb (cond own 1 2) 1) && not (eqb 1 0)) ≡ (not t && mem)
        by false own t d = sym (and-false (not t))
        by true true t d = absurd (false≢true (sym (d refl)))
        by true false true d = refl
        by true false false d = refl

    -- A search that looks for the listed folders, or for none.
    found : (p : ℕ → Bool) (b : Bool) → ((f : ℕ) → f < 512 → p f ≡ (b && member f e.list)) → those p (folders register) ≡ cond b e.list []
    found p b agree = ap (those p) folders-512 ∙ (those-agree p (λ f. b && member f e.list) 512 agree ∙ by b)
      where
        by : (b : Bool) → those (λ f. b && member f e.list) 512 ≡ cond b e.list []
        by true = those-rising e.folder e.list w.list
        by false = those-never (λ f. false) 512 (λ f h. refl)

    rivals-found : rivals register row e.folder ≡ cond (eqb e.answer 20) e.list []
    unfolding rivals
    rivals-found = found (rival register row e.folder) (eqb e.answer 20) rival-at

    foreigners-found : foreigners register row e.folder ≡ cond reading e.list []
    unfolding foreigners
    foreigners-found = found (foreign register row e.folder) reading foreign-at

    stakes-found : stakes register row e.folder ≡ cond (not reading) e.list []
    unfolding stakes
    stakes-found = found (at_stake register row e.folder) (not reading) stake-at

    lost-found : lost register row e.folder e.kind ≡ cond (revokes e.kind && not reading) e.list []
    unfolding lost
    lost-found =
        found (λ f. revokes e.kind && at_stake register row e.folder f) (revokes e.kind && not reading)
        (λ f h. rw (stake-at f h) (sym (and_assoc (revokes e.kind) (not reading) (member f e.list))))

    wall-right : wall_answer register row e.folder e.kind ≡ answer e.answer e.list
    unfolding wall_answer wall_checks judge
    wall-right =
        rw (rivals-found, foreigners-found, stakes-found, lost-found) (walled-right e.kind e.answer e.list w.kind w.answer w.count)

    -- ---- so the request writes the record

    decided : decision register ps matrix request log ≡ answer e.answer e.list
    unfolding decision
    decided =
        rw (
          judge-append,
          judge-passed (register_checks register) _ register-passed,
          judge-passed (request_checks register ps matrix request log) _ request-passed,
        )
        wall-right

    told : is_logged (answer e.answer e.list) ≡ true
    told = can-logged e.kind e.answer w.answer

    answered : (outcome register ps matrix request log).answer ≡ answer e.answer e.list
    unfolding outcome logged
    answered = rw (decided, told, le-ltb (length log.bytes - 0) (length (record_bytes e)) (rw length-replicate (omega arith)))

    person-most : (s : ℕ) → (s < p) ⊎ (p ≤ s) → person_of ps s ≤ 65535
    person-most s (inl h) = omega (arith, few, person-below p ps pass s h)
    person-most s (inr h) = rw (person-none ps s (rw (list-whole p ps pass) h)) (omega arith)

    pub witness : LoggedRequest
    witness =
        record {
          register = register;
          persons = ps;
          matrix = matrix;
          request = request;
          log = log;
          accepted = register-accepted;
          serial = w.serial;
          is-logged = rw answered told;
        }

    pub witness-mode : witness.register.by_pairs ≡ by_pairs
    unfolding witness
    witness-mode = refl

    pub witness-logins : witness.register.logins ≡ p
    unfolding witness
    witness-logins = refl

    pub witness-persons : witness.persons ≡ ps
    unfolding witness
    witness-persons = refl

    pub witness-lent : CanBeMade witness
    unfolding witness
    witness-lent =
        record {
          classes = list_of-most 512 65535 class_at (λ f. cond-most (eqb f e.folder) (omega arith) (cond-most (eqb e.answer 20) (omega arith) (omega arith)));
          clients = list_of-most 512 65535 client_at (λ f. cond-most (eqb f e.folder) (omega arith) (omega arith));
          firsts = paired-most 1 (omega arith);
          seconds = paired-most 2 (omega arith);
          persons = λ s. person-most s (lt-or-le s p);
          matrix = λ i. omega (arith, list_of-most (p * 512) 2 (λ k. cell_at (k % 512)) (λ k. cond-most (member (k % 512) e.list) (cond-most reading (omega arith) (omega arith)) (omega arith)) i);
          log = λ i. rw (get_d-zeros (length (record_bytes e)) i) (omega arith);
        }

    pub recorded-witness : recorded witness ≡ e
    unfolding witness
    recorded-witness = ap (record_of request e.serial) answered
