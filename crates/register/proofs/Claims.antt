-- The register check in its two modes: three rows that both have, and one more by pairs.
use mathlib.Core.Path.{◌≡◌, refl, sym, ap, ◌∙◌}
use mathlib.Core.Logic.{⊎_elim}
use mathlib.Core.Bool.{Bool, true, false, cond, not, ◌&&◌}
use mathlib.Core.List.{List, [], ◌∷◌}
use Rattle.vocabulary.specs.Answer.{Answer, Check, answer, check, judge}
use Rattle.vocabulary.specs.Those.{those, some, smallest}
use Rattle.vocabulary.proofs.Judge.{judge-silent, judge-passed, judge-either}
use Rattle.register.specs.Register.{Register, folders, in_range, lone_zero, earlier, later, two_classes, bad_pairs, register_checks, register_answer}
use Rattle.register.specs.Claims.{in_classes, ModesChecked}

module _ (r : Register) where
  -- Rows 1 to 3.
  abbrev first : List Check
  first =
      check (not (in_range r)) 1 []
      ∷ check (some (those (lone_zero r) (folders r))) 2 (smallest (those (lone_zero r) (folders r)) ∷ [])
      ∷ two_classes r
      ∷ []

  -- What row 11 says.
  abbrev last : Answer
  last = cond (r.by_pairs && bad_pairs r) (answer 11 []) (answer 0 [])

  answer-both : register_answer r ≡ judge first last
  unfolding register_answer register_checks judge
  answer-both = refl

  answer-classes : register_answer (in_classes r) ≡ judge first (answer 0 [])
  unfolding register_answer register_checks judge later earlier
  answer-classes = refl

  by-classes : r.by_pairs ≡ false → register_answer r ≡ register_answer (in_classes r)
  by-classes mode = answer-both ∙ (ap (λ (b : Bool). judge first (cond (b && bad_pairs r) (answer 11 []) (answer 0 []))) mode ∙ sym answer-classes)

  first-refuses : ((register_answer (in_classes r)).number ≡ 0 → ⊥) → register_answer r ≡ register_answer (in_classes r)
  first-refuses some =
      ⊎_elim
      (λ e. answer-both ∙ (e ∙ sym answer-classes))
      (λ p. absurd (some (ap (λ (a : Answer). a.number) (answer-classes ∙ judge-passed first (answer 0 []) p))))
      (judge-either first last (answer 0 []))

  then-pairs : r.by_pairs ≡ true → (register_answer (in_classes r)).number ≡ 0 → register_answer r ≡ cond (bad_pairs r) (answer 11 []) (answer 0 [])
  then-pairs mode e =
      let p = (judge-silent first (answer 0 []) 0 refl (sym (ap (λ (a : Answer). a.number) answer-classes) ∙ e)).0 in
      answer-both ∙ (judge-passed first last p ∙ ap (λ (b : Bool). cond (b && bad_pairs r) (answer 11 []) (answer 0 [])) mode)

pub modes-checked : ModesChecked
modes-checked =
    record {
      classes = by-classes;
      refused = first-refuses;
      pairs = then-pairs;
    }
