-- Laws of refusal tables.
use Prim.Native.Nat.{ℕ}
use mathlib.Core.Path.{◌≡◌, refl}
use mathlib.Core.Bool.{Bool, true, false, cond, not, ◌&&◌}
use lib.Dec.{eqb}
use borrow.Author.Tests.{eq-eqb}
use Rattle.vocabulary.proofs.Bools.{both, not-both}
use mathlib.Core.Logic.{◌⊎◌, inl, inr}
use mathlib.Core.List.{List, [], ◌∷◌, ◌++◌}
use Rattle.vocabulary.specs.Answer.{Answer, Check, judge}

-- A table in two parts: the second speaks where the first is passed.
pub judge-append : (a b : List Check) (x : Answer) → judge (a ++ b) x ≡ judge a (judge b x)
unfolding judge
judge-append [] b x = refl
judge-append (c ∷ a) b x = rw (judge-append a b x)

-- The first check that fails speaks.
pub judge-fails : (c : Check) (cs : List Check) (x : Answer) → c.fails ≡ true → judge (c ∷ cs) x ≡ c.refusal
unfolding judge
judge-fails c cs x e = rw e

-- A check that is passed is silent.
pub judge-passes : (c : Check) (cs : List Check) (x : Answer) → c.fails ≡ false → judge (c ∷ cs) x ≡ judge cs x
unfolding judge
judge-passes c cs x e = rw e

-- Every check of a table is passed.
abbrev pub Passed : List Check → Type 0
Passed [] = Unit {0}
Passed (c ∷ cs) = (c.fails ≡ false) × Passed cs

-- No check of a table answers with this number.
abbrev pub none_says : ℕ → List Check → Bool
none_says n [] = true
none_says n (c ∷ cs) = not (eqb c.refusal.number n) && none_says n cs

-- A number that none of a table's checks has: every check is passed, and what follows the table speaks.
pub judge-silent : (cs : List Check) (x : Answer) (n : ℕ) → none_says n cs ≡ true → (judge cs x).number ≡ n → Passed cs × (judge cs x ≡ x)
unfolding judge
judge-silent [] x n s e = (tt, refl)
judge-silent (c ∷ cs) x n s e = go c.fails refl (judge-silent cs x n parts.1)
  where
    parts : (not (eqb c.refusal.number n) ≡ true) × (none_says n cs ≡ true)
    parts = both (not (eqb c.refusal.number n)) (none_says n cs) s

    say : (b : Bool) → c.fails ≡ b → (cond b c.refusal (judge cs x)).number ≡ n
    say b f = rw (← f) e

    go : (b : Bool) → c.fails ≡ b → ((judge cs x).number ≡ n → Passed cs × (judge cs x ≡ x)) →
        ((c.fails ≡ false) × Passed cs) × (cond c.fails c.refusal (judge cs x) ≡ x)
    go true f more = not-both parts.0 (rw (eq-eqb c.refusal.number n (say true f)))
    go false f more = let r = more (say false f) in ((f, r.0), rw f r.1)

-- Where every check is passed, what follows the table speaks.
pub judge-passed : (cs : List Check) (x : Answer) → Passed cs → judge cs x ≡ x
unfolding judge
judge-passed [] x p = refl
judge-passed (c ∷ cs) x p = rw p.0 (judge-passed cs x p.1)

pub passed-append : (a b : List Check) → Passed (a ++ b) → Passed a × Passed b
passed-append [] b p = (tt, p)
passed-append (c ∷ a) b p = let r = passed-append a b p.1 in ((p.0, r.0), r.1)

-- A table speaks whatever follows it, or is passed.
pub judge-either : (cs : List Check) (x y : Answer) → (judge cs x ≡ judge cs y) ⊎ Passed cs
unfolding judge
judge-either [] x y = inr tt
judge-either (c ∷ cs) x y = go c.fails refl (judge-either cs x y)
  where
    go : (b : Bool) → c.fails ≡ b → (judge cs x ≡ judge cs y) ⊎ Passed cs →
        (cond c.fails c.refusal (judge cs x) ≡ cond c.fails c.refusal (judge cs y)) ⊎ ((c.fails ≡ false) × Passed cs)
    go true f more = inl (rw f)
    go false f (inl e) = inl (rw (f, e))
    go false f (inr p) = inr (f, p)
