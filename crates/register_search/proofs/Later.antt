-- When a folder differs from an earlier one: where none before it does, any earlier folder of its client decides.
use Prim.Native.Nat.{ℕ, zero, suc, ◌-◌, ◌≤◌, ◌<◌}
use mathlib.Core.Path.{◌≡◌, refl, ap, sym, ◌∙◌}
use mathlib.Core.Bool.{Bool, true, false, not, false≢true}
use mathlib.Core.List.{List}
use native.Mathlib.Omega.{arith}
use native.Mathlib.Decide.{ℕ_discrete, dec_lt}
use lib.Dec.{eqb}
use lib.ListN.{get_or}
use Rattle.std.specs.Prelude.{None, slice_get}
use borrow.Author.Tests.{eq-eqb, ne_eqb, eqb-true, lt-ltb}
use Rattle.vocabulary.specs.Those.{those, some}
use Rattle.vocabulary.proofs.Those.{those-empty, those-never, some-none}
use Rattle.register.specs.Register.{Register, folders, class_of, client_of, differs, earlier, later}
use Rattle.register_search.specs.Chains.{past_last, of_client}
use Rattle.register_search.specs.Marks.{Clean, Telling, clash}
use Rattle.register_search.proofs.Chains.{past_last-holds, past_last-none}

pub differs_none : (r : Register) (f g : ℕ) → (client_of r g ≡ client_of r f → class_of r g ≡ class_of r f) → differs r f g ≡ false
differs_none r f g h =
    elim (ℕ_discrete (client_of r g) (client_of r f)) [
      | yes e ↦ rw (eq-eqb (client_of r g) (client_of r f) e, eq-eqb (class_of r g) (class_of r f) (h e))
      | no d ↦ rw (ne_eqb (client_of r g) (client_of r f) d)
    ]

pub differs-class : (r : Register) (f g : ℕ) → differs r f g ≡ false → client_of r g ≡ client_of r f → class_of r g ≡ class_of r f
differs-class r f g h e =
    elim (ℕ_discrete (class_of r g) (class_of r f)) [
      | yes same ↦ same
      | no d ↦ absurd (false≢true (sym h ∙ rw (eq-eqb (client_of r g) (client_of r f) e, ne_eqb (class_of r g) (class_of r f) d)))
    ]

module _ (r : Register) (i : ℕ) (clean : Clean r i) where
  -- Where nothing before differs from an earlier folder, two folders of one client have one class.
  one_class : (g k : ℕ) → g < i → k < g → client_of r k ≡ client_of r g → class_of r k ≡ class_of r g
  unfolding earlier
  one_class g k below before e =
      differs-class r g k (those-empty (differs r g) g (some-none (those (differs r g) g) (those-empty (λ f. some (earlier r f)) i clean g below)) k before) e

  -- A folder alone of its client differs from none.
  pub alone : ((g : ℕ) → g < i → client_of r g ≡ client_of r i → ⊥) → some (earlier r i) ≡ false
  unfolding earlier
  alone none = ap some (those-never (differs r i) i (λ k h. differs_none r i k (λ same. absurd (none k h same))))

  module _ (g : ℕ) (below : g < i) (alike : client_of r g ≡ client_of r i) where
    class-alike : class_of r g ≡ class_of r i → (k : ℕ) → k < i → client_of r k ≡ client_of r i → class_of r k ≡ class_of r i
    class-alike same k h e =
        elim (dec_lt k g) [
          | yes before ↦ one_class g k below before (e ∙ sym alike) ∙ same
          | no past ↦
              elim (ℕ_discrete k g) [
                | yes at ↦ rw at same
                | no d ↦ sym (one_class k g h (omega arith) (alike ∙ sym e)) ∙ same
              ]
        ]

    agrees : class_of r g ≡ class_of r i → some (earlier r i) ≡ false
    unfolding earlier
    agrees same = ap some (those-never (differs r i) i (λ k h. differs_none r i k (class-alike same k h)))

    disagrees : (class_of r g ≡ class_of r i → ⊥) → some (earlier r i) ≡ true
    unfolding earlier
    disagrees d = at (some (earlier r i)) refl
      where
        at : (b : Bool) → some (those (differs r i) i) ≡ b → b ≡ true
        at true e = refl
        at false e = absurd (d (differs-class r i g (those-empty (differs r i) i (some-none (those (differs r i) i) e) g below) alike))

    -- Any earlier folder of its client decides.
    pub decides : some (earlier r i) ≡ not (eqb (class_of r g) (class_of r i))
    decides =
        elim (ℕ_discrete (class_of r g) (class_of r i)) [
          | yes same ↦ rw (eq-eqb (class_of r g) (class_of r i) same) (agrees same)
          | no d ↦ rw (ne_eqb (class_of r g) (class_of r i) d) (disagrees d)
        ]

  -- So does one that a mark tells of.
  pub told-step : (mark : ℕ) → Telling r.clients i mark → mark ≤ i → some (earlier r i) ≡ clash r.classes i mark
  told-step zero t h = alone (t.none refl)
  told-step (suc g) t h =
      let one_less : suc g - 1 ≡ g = omega arith in
      rw (lt-ltb 0 (suc g) (omega arith), one_less) (decides g (omega arith) (rw one_less at (t.one (omega arith) h)))

-- The first folder differs from none, and so one folder alone.
pub clean-one : (r : Register) → Clean r 1
unfolding earlier those
clean-one r = refl

pub later-one : (r : Register) → folders r ≤ 1 → None ≡ slice_get (later r) 0
unfolding later
later-one r h = rw (those-never p (folders r) (λ f below. those-empty p 1 (clean-one r) f (omega arith)))
  where
    p : ℕ → Bool
    p f = some (earlier r f)

-- The last folder of a client tells of it.
pub last-telling : (clients : List ℕ) (i : ℕ) → Telling clients i (past_last (of_client clients (get_or clients i 0)) i)
last-telling clients i =
    record {
      none = λ z g h same. false≢true (sym (past_last-none p i g (omega (arith, z)) h) ∙ eq-eqb (get_or clients g 0) (get_or clients i 0) same);
      one = λ some h. eqb-true (get_or clients (past_last p i - 1) 0) (get_or clients i 0) (past_last-holds p i (past_last p i - 1) (omega arith));
    }
  where
    p : ℕ → Bool
    p = of_client clients (get_or clients i 0)
