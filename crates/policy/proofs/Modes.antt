-- A register by classes, written out in pairs, is answered the same.
use Prim.Native.Nat.{ℕ, ◌<◌}
use mathlib.Core.Path.{◌≡◌, sym, ap, ◌∙◌}
use mathlib.Core.Logic.{⊎_elim}
use mathlib.Core.Bool.{Bool, true, false, cond, ◌&&◌}
use mathlib.Core.List.{List}
use lib.ListN.{length, get_or}
use borrow.Author.Tests.{eq-eqb, ne_eqb, le-ltb, leb-false}
use Rattle.vocabulary.specs.Answer.{judge}
use Rattle.vocabulary.proofs.Those.{those-agree, those-never}
use Rattle.vocabulary.proofs.Judge.{Passed, judge-append, judge-passed, judge-either}
use Rattle.vocabulary.proofs.Bools.{not-both, true-or-false}
use Rattle.person_list.specs.PersonList.{person_of}
use Rattle.register.specs.Register.{Register, folders, client_of, earlier, later, bad_pair, bad_pairs, register_checks, Accepted}
use Rattle.policy.specs.Conflict.{one_class, paired, in_conflict}
use Rattle.policy.specs.Rules.{row_of, cell, can_read, rivals, foreigners, stakes, lost, row_after}
use Rattle.policy.specs.Outcome.{Request, Log, request_checks, wall_checks, wall_answer, decision, outcome}
use Rattle.policy.specs.Modes.{in_pairs, WrittenOut, SameByPairs}
use Rattle.policy.proofs.Accepted.{passed}
use Rattle.policy.proofs.Outcome.{passed-at}
use Rattle.policy.proofs.Conflict.{ConflictLaws, by-classes, Named, pair-named}

module _ (r : Register) (ok : Accepted r) (mode : r.by_pairs ≡ false) (firsts seconds : List ℕ) (w : WrittenOut r firsts seconds) where
  abbrev p : Register
  p = in_pairs r firsts seconds

  classes : ConflictLaws r (one_class r)
  classes = by-classes r ok

  -- A pair names just two clients of one class.
  pair-class : (f g : ℕ) → f < folders r → g < folders r → Named p (client_of r f) (client_of r g) → one_class r f g ≡ true
  pair-class f g h i n =
      let s = w.sound n.place n.known in
      ⊎_elim
      (λ e. classes.alike s.one s.other f g s.one_known s.other-known h i (s.one-client ∙ e.0) (s.other-client ∙ e.1) s.alike)
      (λ e.
      classes.turned g f
      (classes.alike s.one s.other g f s.one_known s.other-known i h (s.one-client ∙ e.0) (s.other-client ∙ e.1) s.alike))
      n.clients

  told : (f g : ℕ) → f < folders r → g < folders r → paired p (client_of r f) (client_of r g) ≡ one_class r f g
  told f g h i =
      ⊎_elim
      (λ e. w.whole f g h i e ∙ sym e)
      (λ e.
      ⊎_elim
      (λ n. not-both (pair-class f g h i (pair-named p (client_of r f) (client_of r g) n)) e)
      (λ n. n ∙ sym e)
      (true-or-false (paired p (client_of r f) (client_of r g))))
      (true-or-false (one_class r f g))

  -- ---- the register is accepted by pairs too

  no-bad-pair : (i : ℕ) → i < length firsts → bad_pair p i ≡ false
  no-bad-pair i h =
      let s = w.sound i h in
      let first : get_or firsts i 0 ≡ 0 → ⊥ = λ z. classes.real s.one s.other s.one_known s.other-known s.alike (s.one-client ∙ z) in
      let second : get_or seconds i 0 ≡ 0 → ⊥ =
      λ z. classes.real s.other s.one s.other-known s.one_known (classes.turned s.one s.other s.alike) (s.other-client ∙ z) in
      let two : get_or firsts i 0 ≡ get_or seconds i 0 → ⊥ = λ z. classes.two s.one s.other s.alike (s.one-client ∙ (z ∙ sym s.other-client)) in
      rw (ne_eqb (get_or firsts i 0) 0 first, ne_eqb (get_or seconds i 0) 0 second, ne_eqb (get_or firsts i 0) (get_or seconds i 0) two)

  pairs-pass : bad_pairs p ≡ false
  unfolding bad_pairs
  pairs-pass =
      rw (eq-eqb (length firsts) (length seconds) w.equal, le-ltb 256 (length firsts) w.few, those-never (bad_pair p) (length firsts) no-bad-pair)

  pass : Passed (register_checks p)
  unfolding register_checks later earlier
  pass = let a = passed r ok in (a.0, (a.1.0, (a.1.1.0, (pairs-pass, tt))))

  -- ---- the wall says the same

  conflict-same : (f o : ℕ) → f < folders r → o < folders r → in_conflict p f o ≡ in_conflict r f o
  conflict-same f o h i = told f o h i ∙ sym (ap (λ (b : Bool). cond b (paired r (client_of r f) (client_of r o)) (one_class r f o)) mode)

  module _ (row : List ℕ) (o kind : ℕ) (here : o < folders r) where
    rivals-same : rivals p row o ≡ rivals r row o
    unfolding rivals
    rivals-same = those-agree _ _ (folders r) (λ f h. ap (λ (b : Bool). can_read (cell row f) && b) (conflict-same f o h here))

    wall-same : wall_answer p row o kind ≡ wall_answer r row o kind
    unfolding wall_answer wall_checks foreigners stakes lost
    wall-same = rw rivals-same

  module _ (ps m : List ℕ) (q : Request) (log : Log) where
    decision-same : decision p ps m q log ≡ decision r ps m q log
    unfolding decision request_checks
    decision-same =
        rw (judge-append (register_checks p), judge-append (register_checks r), judge-passed (register_checks p) _ pass, judge-passed (register_checks r) _ (passed r ok))
        (⊎_elim
        (λ e. e)
        (λ a. ap (judge (request_checks r ps m q log)) (wall-same (row_of r m (person_of ps q.login)) q.folder q.kind (leb-false (folders r) q.folder (passed-at 6 (request_checks r ps m q log) a))))
        (judge-either (request_checks r ps m q log) (wall_answer p (row_of r m (person_of ps q.login)) q.folder q.kind) (wall_answer r (row_of r m (person_of ps q.login)) q.folder q.kind)))

    outcome-same : outcome p ps m q log ≡ outcome r ps m q log
    unfolding outcome row_after
    outcome-same = rw decision-same

pub same-by-pairs : SameByPairs
same-by-pairs r ok mode firsts seconds w ps m q log = outcome-same r ok mode firsts seconds w ps m q log
