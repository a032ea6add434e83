-- What the register check answers past its first row: 2 by the first find of its search, and else what the search for 3 answers.
use Prim.Native.Nat.{ℕ, ◌<◌}
use native.Mathlib.Omega.{arith}
use mathlib.Core.Path.{◌≡◌, refl, sym, ap, ◌∙◌}
use mathlib.Core.Bool.{Bool, true, false, cond, ◌&&◌}
use mathlib.Core.List.{List, [], ◌∷◌}
use lib.Dec.{eqb}
use lib.ListN.{length}
use borrow.Author.Tests.{le-leb, eq-eqb, eqb-false}
use Rattle.vocabulary.specs.Answer.{Answer, answer, judge}
use Rattle.vocabulary.specs.Those.{those}
use Rattle.vocabulary.proofs.Judge.{judge-silent}
use Rattle.register.specs.Register.{Register, register_by, register_of, folders, in_range, lone_zero, earlier, later, bad_pairs, register_checks, register_answer}
use Rattle.register.specs.Claims.{in_classes}
use Rattle.register.proofs.Claims.{modes-checked}
use Rattle.register.proofs.Answers.{in_range-ranged}
use Rattle.register_search.specs.Search.{search_answer}
use Rattle.register_search.proofs.First.{found, nothing, first-holds}
use Rattle.std.specs.Prelude.{Some, None, slice_get}

-- Where the register check's number is 0, it says nothing else.
accepted : (r : Register) → (register_answer r).number ≡ 0 → register_answer r ≡ answer 0 []
unfolding register_answer register_checks
accepted r e = (judge-silent (register_checks r) (answer 0 []) 0 refl e).1

-- The folders that refusal 2 names.
abbrev pub lone : Register → List ℕ
lone r = those (lone_zero r) (folders r)

pub lone-below : (r : Register) (f : ℕ) → in_range r ≡ true → Some f ≡ slice_get (lone r) 0 → f < 512
lone-below r f fits first = omega (arith, (first-holds (lone_zero r) (folders r) f first).0, (in_range-ranged r fits).folders-few)

pub answer-lone : (r : Register) (f : ℕ) → in_range r ≡ true → Some f ≡ slice_get (lone r) 0 → register_answer r ≡ answer 2 (f ∷ [])
unfolding register_answer register_checks judge
answer-lone r f fits first = rw (fits, (found (lone r) f first).0, (found (lone r) f first).1)

-- By classes, the search for 3 has the last word; it asks nothing of the logins.
pub answer-search : (p : ℕ) (cs ds : List ℕ) → in_range (register_of p cs ds) ≡ true → None ≡ slice_get (lone (register_of p cs ds)) 0 →
    register_answer (register_of p cs ds) ≡ search_answer (register_of 0 cs ds)
unfolding register_answer register_checks judge search_answer later earlier
answer-search p cs ds fits none =
    let sizes = in_range-ranged (register_of p cs ds) fits in
    rw (fits, nothing (lone (register_of p cs ds)) none, le-leb (length cs) 512 sizes.folders-few, eq-eqb (length cs) (length ds) sizes.folders-alike)

-- What follows the labels' rows: refusals of theirs stay, and else the pairs are judged.
module _ (r : Register) where
  -- A register's pairs alone.
  abbrev alone : Register
  alone = register_by 0 [] [] true r.firsts r.seconds

  both-modes : (register_answer (in_classes r)).number ≡ 0 → register_answer r ≡ cond (r.by_pairs && bad_pairs alone) (answer 11 []) (answer 0 [])
  unfolding bad_pairs
  both-modes e = by r.by_pairs refl
    where
      by : (mode : Bool) → r.by_pairs ≡ mode → register_answer r ≡ cond (mode && bad_pairs r) (answer 11 []) (answer 0 [])
      by true m = modes-checked.pairs r m e
      by false m = modes-checked.classes r m ∙ accepted (in_classes r) e

  -- Where the labels pass, the pairs have the last word.
  pub answer-pairs : answer 0 [] ≡ register_answer (in_classes r) → cond (r.by_pairs && bad_pairs alone) (answer 11 []) (answer 0 []) ≡ register_answer r
  answer-pairs e = sym (both-modes (sym (ap (λ (a : Answer). a.number) e)))

  pub answer-refused : (a : Answer) → eqb a.number 0 ≡ false → a ≡ register_answer (in_classes r) → a ≡ register_answer r
  answer-refused a n e =
      e ∙ sym (modes-checked.refused r (λ z. eqb-false a.number 0 n (ap (λ (b : Answer). b.number) e ∙ z)))
