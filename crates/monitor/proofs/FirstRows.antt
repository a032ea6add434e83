-- Rows 1 to 7 of the table: what it tells that they are passed, and what a refusal of theirs leaves.
use Prim.Native.Nat.{ℕ, ◌+◌, ◌*◌, ◌-◌, ◌≤◌, ◌<◌}
use mathlib.Core.Path.{◌≡◌, refl, sym, ap, ◌∙◌}
use mathlib.Core.Logic.{◌⊎◌, inl, inr, ⊎_elim}
use mathlib.Core.Bool.{Bool, true, false, cond, not, ◌&&◌, ◌||◌}
use mathlib.Core.List.{List, [], ◌∷◌, ◌++◌, append_assoc}
use native.Mathlib.Nat.{mul-le-mul_right, mul-le-mul_left, le_trans}
use lib.ListN.{length, drop}
use lib.Dec.{eqb, ltb}
use borrow.Author.Tests.{leb-false, eqb-true, le-leb, le-ltb, ltb-false, not-false}
use Rattle.vocabulary.specs.Answer.{Answer, Check, answer, judge}
use Rattle.vocabulary.specs.Those.{those, some}
use Rattle.vocabulary.proofs.Judge.{Passed, judge-append, judge-passed, judge-either, passed-append}
use Rattle.vocabulary.proofs.Bools.{not-both, neither, true-or-false}
use Rattle.log_bytes.specs.Record.{record_bytes}
use Rattle.person_list.specs.PersonList.{person_of}
use Rattle.person_list.proofs.PersonList.{person-below}
use Rattle.register.specs.Register.{Register, register_by, folders, in_range, pairs, bad_pair, bad_pairs, register_checks, register_answer}
use Rattle.register.proofs.Answers.{Ranged, in_range-ranged}
use Rattle.policy.specs.Conflict.{paired}
use Rattle.policy.specs.Rules.{row_of, with_row, cell, row_after, rivals, foreigners, stakes, lost}
use Rattle.policy.specs.Outcome.{Request, Log, Outcome, request_checks, wall_checks, wall_answer, decision, is_logged, record_of, unchanged, matrix_after, logged, outcome, told}
use Rattle.policy.proofs.Outcome.{fails_at, passed-at, logged-silent, outcome-unlogged}
use Rattle.policy.proofs.Rows.{row_fits, length-row_of, with_row-row_of}
use Rattle.cells.specs.Above.{aboves}
use Rattle.row_labels.specs.Fitting.{lists_fit, fitting}
use Rattle.register_pairs.specs.Pair.{pairs_fit}
use Rattle.row.specs.Row.{fit_checks, row_answer}
use Rattle.row_grant.specs.Granted.{row_granted}
use Rattle.row_labels.proofs.Fitting.{fits-row}
use Rattle.row.proofs.Fitting.{row_answer-fits}
use Rattle.row_grant.proofs.Granted.{row_granted-fits}
use Rattle.row_decision.specs.Decision.{row_checks, served_answer}
use Rattle.row_request.specs.Served.{served_outcome, served_at}
use Rattle.monitor.specs.Front.{passed, front_checks, four_to_seven, one_to_seven}

pub product-fits : {p f : ℕ} → p ≤ 128 → f ≤ 512 → p * f ≤ 65536
product-fits {p} {f} a b = le_trans (mul-le-mul_right f a) (mul-le-mul_left 128 b)

-- Pairs that 11 lets pass fit.
pairs-fit : (r : Register) → (r.by_pairs && bad_pairs r) ≡ false → (r.by_pairs && not (pairs_fit r)) ≡ false
unfolding bad_pairs pairs_fit
pairs-fit r pass = by r.by_pairs pass
  where
    by : (mode : Bool) → (mode && bad_pairs r) ≡ false → (mode && not (pairs_fit r)) ≡ false
    by false e = refl
    by true e =
        let sizes = (neither (not (eqb (pairs r) (length r.seconds)) || ltb 256 (pairs r)) (some (those (bad_pair r) (pairs r))) e).0 in
        let s = neither (not (eqb (pairs r) (length r.seconds))) (ltb 256 (pairs r)) sizes in
        rw (not-false (eqb (pairs r) (length r.seconds)) s.0, le-leb (pairs r) 256 (ltb-false 256 (pairs r) s.1))

-- ---- the register's rows

module _ (r : Register) where
  register-passed : answer 0 [] ≡ register_answer r → Passed (register_checks r)
  unfolding register_answer register_checks
  register-passed e = (logged-silent (register_checks r) (answer 0 []) refl refl refl refl (rw (← e))).0

  pub registered-range : answer 0 [] ≡ register_answer r → Ranged r
  unfolding register_checks
  registered-range e = in_range-ranged r (not-false (in_range r) (register-passed e).0)

  module _ (ps : List ℕ) (size : ℕ) (q : Request) where
    abbrev rest : List Check
    rest = front_checks r.logins (folders r) ps size q

    pub register-open : answer 0 [] ≡ register_answer r → four_to_seven r.logins (folders r) ps size q ≡ one_to_seven r ps size q
    unfolding four_to_seven one_to_seven
    register-open e = sym (judge-append (register_checks r) rest passed ∙ judge-passed (register_checks r) (judge rest passed) (register-passed e))

    pub register-refused : (a : Answer) → (a.number ≡ 0 → ⊥) → a ≡ register_answer r → a ≡ one_to_seven r ps size q
    unfolding register_answer one_to_seven
    register-refused a some e =
        ⊎_elim
        (λ f. e ∙ (f ∙ sym (judge-append (register_checks r) rest passed)))
        (λ p. absurd (some (ap (λ (b : Answer). b.number) (e ∙ judge-passed (register_checks r) (answer 0 []) p))))
        (judge-either (register_checks r) (answer 0 []) (judge rest passed))

-- ---- rows 1 to 7 passed

-- What a request meets where the first rows are passed.
pub record Opened (r : Register) (ps m : List ℕ) (q : Request) : Type 0 where
  pub passed : Passed (register_checks r ++ front_checks r.logins (folders r) ps (length m) q)
  pub ranged : Ranged r
  pub paired : (r.by_pairs && not (pairs_fit r)) ≡ false
  pub whole : length m ≡ r.logins * folders r
  pub person-known : person_of ps q.login < r.logins
  pub folder-known : q.folder < folders r

module _ (r : Register) (ps m : List ℕ) (q : Request) where
  abbrev front : List Check
  front = register_checks r ++ front_checks r.logins (folders r) ps (length m) q

  front-logged : is_logged (one_to_seven r ps (length m) q) ≡ true →
      Passed (register_checks r ++ front_checks r.logins (folders r) ps (length m) q) × (one_to_seven r ps (length m) q ≡ passed)
  unfolding one_to_seven register_checks front_checks
  front-logged e = logged-silent front passed refl refl refl refl e

  pub opened : (n : ℕ) → answer 0 (n ∷ []) ≡ one_to_seven r ps (length m) q → Opened r ps m q
  unfolding register_checks front_checks
  opened n e =
      let p = (front-logged (rw (← e))).0 in
      let a = passed-append (register_checks r) (front_checks r.logins (folders r) ps (length m) q) p in
      let early : (n : ℕ) → fails_at n (front_checks r.logins (folders r) ps (length m) q) ≡ false = λ n. passed-at n (front_checks r.logins (folders r) ps (length m) q) a.1 in
      record {
        passed = p;
        ranged = in_range-ranged r (not-false (in_range r) a.0.0);
        paired = pairs-fit r a.0.1.1.1.0;
        whole = eqb-true (length m) (r.logins * folders r) (not-false (eqb (length m) (r.logins * folders r)) (early 4));
        person-known = person-below r.logins ps (early 10) q.login (leb-false r.logins q.login (early 5));
        folder-known = leb-false (folders r) q.folder (early 6);
      }

-- The row's place in the matrix.
pub row_within : {r : Register} {ps m : List ℕ} {q : Request} → Opened r ps m q → (person_of ps q.login * folders r + folders r ≤ length m) × (length m ≤ 65536)
row_within {r} {ps} {m} {q} o =
    rw o.whole (row_fits (person_of ps q.login) r.logins (folders r) o.person-known, product-fits o.ranged.logins-few o.ranged.folders-few)

pub row-length : {r : Register} {ps m : List ℕ} {q : Request} → Opened r ps m q → length (row_of r m (person_of ps q.login)) ≡ folders r
row-length {r} {ps} {m} {q} o = length-row_of r m o.whole (person_of ps q.login) o.person-known

-- ---- what a decision leaves, in the matrix and on the row

module _ (r : Register) (ps m : List ℕ) (q : Request) (log : Log) where
  -- The person of the login that asks, and that person's row.
  abbrev s : ℕ
  s = person_of ps q.login

  abbrev row : List ℕ
  row = row_of r m s

  -- The rows after the first seven, of the whole table.
  abbrev late : Answer
  late = judge (drop 5 (request_checks r ps m q log)) (wall_answer r row q.folder q.kind)

  decision-front : decision r ps m q log ≡ judge (register_checks r ++ front_checks r.logins (folders r) ps (length m) q) late
  unfolding decision request_checks front_checks
  decision-front =
      ap (λ (l : List Check). judge l (wall_answer r row q.folder q.kind))
      (sym (append_assoc (register_checks r) (front_checks r.logins (folders r) ps (length m) q) (drop 5 (request_checks r ps m q log))))
      ∙ judge-append (register_checks r ++ front_checks r.logins (folders r) ps (length m) q) (drop 5 (request_checks r ps m q log)) (wall_answer r row q.folder q.kind)

  -- What is left on the row, put into the matrix.
  abbrev in_matrix : Outcome → Outcome
  in_matrix x = record { answer = x.answer; matrix = with_row r m s x.matrix; log = x.log }

  module _ (a : Answer) where
    -- The row after a decision.
    abbrev left : List ℕ
    left = cond (eqb a.number 0) (row_after r row q.folder q.kind) row

    matrix-left : matrix_after r s m q a ≡ with_row r m s left
    matrix-left = by (true-or-false (eqb a.number 0))
      where
        by : (eqb a.number 0 ≡ true) ⊎ (eqb a.number 0 ≡ false) → matrix_after r s m q a ≡ with_row r m s left
        by (inl e) = rw e
        by (inr e) = rw e (sym (with_row-row_of r m s))

    logged-row : logged q log a m (matrix_after r s m q a) ≡ in_matrix (logged q log a row left)
    unfolding logged
    logged-row = by (true-or-false long)
      where
        long : Bool
        long = ltb (length log.bytes - log.end) (length (record_bytes (record_of q log.serial a)))

        by : (long ≡ true) ⊎ (long ≡ false) → logged q log a m (matrix_after r s m q a) ≡ in_matrix (logged q log a row left)
        by (inl e) = rw (e, with_row-row_of r m s)
        by (inr e) = rw (e, matrix-left)

    decided-row : cond (is_logged a) (logged q log a m (matrix_after r s m q a)) (unchanged a m log)
        ≡ in_matrix (cond (is_logged a) (logged q log a row left) (unchanged a row log))
    decided-row = by (true-or-false (is_logged a))
      where
        by : (is_logged a ≡ true) ⊎ (is_logged a ≡ false) → cond (is_logged a) (logged q log a m (matrix_after r s m q a)) (unchanged a m log)
            ≡ in_matrix (cond (is_logged a) (logged q log a row left) (unchanged a row log))
        by (inl e) = rw e logged-row
        by (inr e) = rw (e, with_row-row_of r m s)

  -- ---- rows 1 to 7 passed

  module _ (o : Opened r ps m q) where
    fits : fitting r row q.folder ≡ true
    fits =
        let l = row-length o in
        let g = o.ranged in
        fits-row r row q.folder (sym l) (sym (l ∙ g.folders-alike)) (rw l g.folders-few) (rw l o.folder-known)

    too_large : those (λ f. ltb 3 (cell row f)) (folders r) ≡ aboves row
    unfolding aboves
    too_large = ap (those (λ f. ltb 3 (cell row f))) (sym (row-length o))

    late-served : late ≡ served_answer r row q (length log.bytes) log.end
    unfolding served_answer request_checks row_checks judge
    late-served = rw (too_large, le-ltb 512 (length row) (rw (row-length o) o.ranged.folders-few), row_answer-fits r row q.folder q.kind fits o.paired)

    outcome-open : told (outcome r ps m q log) ≡ in_matrix (served_outcome r row q log)
    unfolding outcome served_outcome
    outcome-open =
        rw (decision-front, judge-passed (register_checks r ++ front_checks r.logins (folders r) ps (length m) q) late o.passed, late-served, row_granted-fits r row q.folder q.kind fits)
        (ap told (decided-row (served_answer r row q (length log.bytes) log.end)))

  -- A refusal by one of the first rows leaves everything.
  pub outcome-refused : (a : Answer) → eqb a.number 0 ≡ false → a ≡ one_to_seven r ps (length m) q → unchanged a m log ≡ told (outcome r ps m q log)
  unfolding one_to_seven
  outcome-refused a n e = by (true-or-false (is_logged a))
    where
      by : (is_logged a ≡ true) ⊎ (is_logged a ≡ false) → unchanged a m log ≡ told (outcome r ps m q log)
      by (inl f) = not-both (rw (e ∙ (front-logged r ps m q (rw (← e) f)).1)) n
      by (inr f) =
          ⊎_elim
          (λ g. let d : a ≡ decision r ps m q log = e ∙ (g ∙ sym decision-front) in rw (outcome-unlogged r ps m q log (rw (← d) f), ← d, n))
          (λ p. not-both (ap is_logged (judge-passed (front r ps m q) passed p)) (rw e at f))
          (judge-either (front r ps m q) passed late)

module _ (p : ℕ) (classes clients : List ℕ) (by_pairs : Bool) (firsts seconds : List ℕ) where
  abbrev register : Register
  register = register_by p classes clients by_pairs firsts seconds

  -- The rules on a row do not look at the register's logins.
  served-folders : (row : List ℕ) (q : Request) (log : Log) →
      served_outcome (register_by p classes clients by_pairs firsts seconds) row q log ≡ served_outcome (register_by 0 classes clients by_pairs firsts seconds) row q log
  unfolding served_outcome served_answer row_answer fit_checks pairs_fit row_granted fitting lists_fit wall_answer wall_checks rivals paired foreigners stakes lost row_after
  served-folders row q log = refl

  -- What a request leaves on the row of the person of the login that asks, in its place in the matrix: the person's number times F.
  pub outcome-served : (ps m : List ℕ) (q : Request) (log : Log) → Opened register ps m q →
      served_at (register_by 0 classes clients by_pairs firsts seconds) m (person_of ps q.login * length classes) q log ≡ told (outcome register ps m q log)
  unfolding served_at
  outcome-served ps m q log o =
      ap (in_matrix register ps m q log) (sym (served-folders (row_of register m (person_of ps q.login)) q log)) ∙ sym (outcome-open register ps m q log o)
