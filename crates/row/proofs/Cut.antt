-- The rules by the cut of the code: the wall's answer by the folders that each search finds; the write rights lost, by the folders at stake.
use Prim.Native.Nat.{ℕ, ◌≤◌, ◌<◌}
use mathlib.Core.Path.{◌≡◌, refl, sym, ap, ◌∙◌}
use mathlib.Core.Logic.{◌⊎◌, inl, inr, ⊎_elim}
use mathlib.Core.Bool.{Bool, true, false, cond, not, ◌&&◌, and-false}
use mathlib.Core.List.{List, [], ◌∷◌}
use native.Mathlib.Omega.{arith}
use lib.ListN.{length, get_or}
use Rattle.std.specs.Prelude.{Some, None}
use lib.Dec.{eqb, ltb}
use borrow.Author.Tests.{eqb-true, eq-eqb, le-leb, lt-leb, ltb-true, ltb-false, not-false}
use Rattle.vocabulary.specs.Answer.{Answer, answer, judge}
use Rattle.vocabulary.specs.Those.{those}
use Rattle.vocabulary.proofs.Those.{those-agree, those-never}
use Rattle.vocabulary.proofs.Bools.{either, and_both, true-or-false}
use Rattle.ids.specs.declared.Label.{Label}
use Rattle.register.specs.Register.{Register, register_by, register_of, folders}
use Rattle.policy.specs.Conflict.{paired}
use Rattle.policy.specs.Rules.{writes, revokes, rivals, foreigners, stakes, lost}
use Rattle.policy.specs.Outcome.{wall_checks, wall_answer}
use Rattle.cell_rules.specs.Cut.{is_rival, is_foreign, is_at_stake}
use Rattle.row_labels.specs.Fitting.{lists_fit, fitting, label_at}
use Rattle.row_labels.specs.Cut.{Alongside}
use Rattle.row_labels.proofs.Fitting.{lists-are, fitting-by}
use Rattle.register_pairs.specs.Pair.{pairs_fit}
use Rattle.row_marks.specs.Opposed.{opposed, opposers, first_opposer}
use Rattle.row.specs.Row.{fit_checks, row_answer, ruled, lost_on}
use Rattle.row.specs.Cut.{first_found, all_of, wall_by}
use Rattle.row.proofs.Found.{found-below, found-end}
use Rattle.row.proofs.Fitting.{lost_on-fits}

-- A kind that enters a write right is not the careful read.
pub writes-other : (kind : ℕ) → writes kind ≡ true → eqb kind 2 ≡ false
writes-other kind e =
    ⊎_elim (λ a. rw (eqb-true kind 3 a)) (λ a. rw (eqb-true kind 4 a)) (either (eqb kind 3) (eqb kind 4) e)

-- Of a grant nothing is told as taken back yet.
told-later : (a b c : Bool) (x y z lost : List ℕ) →
    ruled (cond a (answer 20 x) (cond b (answer 21 y) (cond c (answer 22 z) (answer 0 lost))))
    ≡ cond a (answer 20 x) (cond b (answer 21 y) (cond c (answer 22 z) (answer 0 (0 ∷ []))))
told-later true b c x y z lost = refl
told-later false true c x y z lost = refl
told-later false false true x y z lost = refl
told-later false false false x y z lost = refl

-- Whether the lists of pairs fit is asked of them alone.
abbrev pub alone : Register → Register
alone r = register_by 0 [] [] true r.firsts r.seconds

-- The rivals, in either mode: by pairs those of the client asked for, by classes those of the label asked for.
abbrev pub rivals_by : Register → List ℕ → Label → List ℕ
rivals_by r row o =
    cond r.by_pairs
    (opposers (register_by 0 [] r.clients true r.firsts r.seconds) row o.client.0)
    (all_of is_rival row r.classes r.clients o)

module _ (r : Register) (row : List ℕ) (beside : Alongside row r.classes r.clients) (o : ℕ) (l : Label) (asked : l ≡ label_at r.classes r.clients o) where
  -- Where lists and pairs fit, the rivals found are those of the rules.
  rivals-are : (r.by_pairs && not (pairs_fit (alone r))) ≡ false → rivals_by r row l ≡ rivals r row o
  unfolding rivals opposers pairs_fit paired
  rivals-are fit = rw asked (by r.by_pairs refl)
    where
      by : (mode : Bool) → r.by_pairs ≡ mode → rivals_by r row (label_at r.classes r.clients o) ≡ rivals r row o
      by true e =
          let paired : pairs_fit r ≡ true = not-false (pairs_fit r) (sym (ap (λ (b : Bool). b && not (pairs_fit r)) e) ∙ fit) in
          rw (e, eq-eqb (length r.clients) (length row) beside.1, paired, beside.0)
      by false e = rw e

  wall-by : (r.by_pairs && not (pairs_fit (alone r))) ≡ false → (kind : ℕ) →
      wall_by (rivals_by r row l) (all_of is_foreign row r.classes r.clients l) (all_of is_at_stake row r.classes r.clients l) kind ≡ ruled (wall_answer r row o kind)
  unfolding wall_by wall_answer wall_checks judge foreigners stakes
  wall-by fit kind = rw (rivals-are fit, asked) (sym (told-later _ _ _ _ _ _ _))

-- What the search by pairs finds, the row's length for none.
module _ (r : Register) (row : List ℕ) (c : ℕ) {m : ℕ} (is : m ≡ first_opposer r row c) where
  pub opposer-found : m < length row → Some (record { 0 = m }) ≡ first_found (opposers r row c)
  unfolding opposers
  opposer-found h = by (eqb (length r.clients) (length row) && pairs_fit r) is
    where
      by : (b : Bool) → m ≡ get_or (cond b (those (opposed r row c) (length row)) []) 0 (length row) →
          Some (record { 0 = m }) ≡ first_found (cond b (those (opposed r row c) (length row)) [])
      by true e = found-below _ _ _ e h
      by false e = absurd (omega arith)

  pub opposer-none : length row ≤ m → None ≡ first_found (opposers r row c)
  unfolding opposers
  opposer-none h = by (eqb (length r.clients) (length row) && pairs_fit r) is
    where
      by : (b : Bool) → m ≡ get_or (cond b (those (opposed r row c) (length row)) []) 0 (length row) →
          None ≡ first_found (cond b (those (opposed r row c) (length row)) [])
      by true e = found-end _ _ _ e h
      by false e = refl

-- Rows 1, 11 and 6 of the table, and what follows them. Whether the lists fit is asked of them alone too.
module _ (r : Register) (row : List ℕ) (o kind : ℕ) where
  abbrev listed : Bool
  listed = lists_fit (register_of 0 r.classes r.clients) row

  pub says-unfit : listed ≡ false → answer 1 [] ≡ ruled (row_answer r row o kind)
  unfolding row_answer fit_checks judge lists_fit
  says-unfit e = rw e

  pub says-pairs : listed ≡ true → (r.by_pairs && not (pairs_fit (alone r))) ≡ true → answer 11 [] ≡ ruled (row_answer r row o kind)
  unfolding row_answer fit_checks judge lists_fit pairs_fit
  says-pairs e p = rw (e, p)

  pub says-unknown : listed ≡ true → (r.by_pairs && not (pairs_fit (alone r))) ≡ false → ltb o (folders r) ≡ false → answer 6 [] ≡ ruled (row_answer r row o kind)
  unfolding row_answer fit_checks judge lists_fit pairs_fit
  says-unknown e p h = rw (e, p, le-leb (length row) o (omega (arith, ltb-false _ _ h, (lists-are (register_of 0 r.classes r.clients) row e).0)))

  -- Past them, the wall speaks, by what the searches find.
  pub says-wall : listed ≡ true → (r.by_pairs && not (pairs_fit (alone r))) ≡ false → ltb o (folders r) ≡ true → (l : Label) → l ≡ label_at r.classes r.clients o →
      {a : Answer} → a ≡ wall_by (rivals_by r row l) (all_of is_foreign row r.classes r.clients l) (all_of is_at_stake row r.classes r.clients l) kind →
      a ≡ ruled (row_answer r row o kind)
  unfolding row_answer fit_checks judge lists_fit pairs_fit
  says-wall e p h l asked is =
      let beside = (lists-are (register_of 0 r.classes r.clients) row e).0 in
      rw (e, p, lt-leb (length row) o (omega (arith, ltb-true _ _ h, beside))) (is ∙ wall-by r row beside o l asked p kind)

-- Write rights are lost where the lists fit, the folder is one of theirs and the kind revokes.
module _ (r : Register) (row : List ℕ) (o kind : ℕ) where
  pub lost-stakes : lists_fit r row ≡ true → ltb o (folders r) ≡ true → revokes kind ≡ true → (l : Label) → l ≡ label_at r.classes r.clients o →
      lost_on r row o kind ≡ all_of is_at_stake row r.classes r.clients l
  unfolding lost
  lost-stakes listed h revoking l asked =
      rw (lost_on-fits r row o kind (sym (fitting-by r row o) ∙ and_both listed h), asked) (those-agree _ _ (folders r) (λ f k. rw revoking))

  pub lost-unfit : lists_fit r row ≡ false → lost_on r row o kind ≡ []
  unfolding lost_on fitting
  lost-unfit e = rw e

  pub lost-unknown : ltb o (folders r) ≡ false → lost_on r row o kind ≡ []
  unfolding lost_on
  lost-unknown h = rw (← fitting-by r row o, h, and-false)

  pub lost-kept : revokes kind ≡ false → lost_on r row o kind ≡ []
  unfolding lost_on lost
  lost-kept e = by (true-or-false (fitting r row o))
    where
      by : (fitting r row o ≡ true) ⊎ (fitting r row o ≡ false) → lost_on r row o kind ≡ []
      by (inl f) = rw f (those-never _ (folders r) (λ k h. rw e))
      by (inr f) = rw f
