-- The 1989 paper's theorems 1, 2 and 4 follow from what every history keeps.
use Prim.Native.Nat.{ℕ, ◌<◌}
use mathlib.Core.Path.{◌≡◌, refl}
use mathlib.Core.Logic.{⊎_elim}
use mathlib.Core.Bool.{true}
use mathlib.Core.List.{List}
use native.Mathlib.Decide.{ℕ_discrete}
use Rattle.vocabulary.proofs.Bools.{not-both, true-or-false}
use Rattle.person_list.specs.PersonList.{person_of}
use Rattle.register.specs.Register.{folders, client_of}
use Rattle.policy.specs.Conflict.{in_conflict}
use Rattle.policy.specs.Rules.{row_of}
use Rattle.policy.specs.History.{State, blank, run}
use Rattle.policy.specs.Papers.{Theorem1, Theorem1ByClasses, Theorem2, Theorem2ByClasses, Theorem4}
use Rattle.policy.proofs.Outcome.{outcome-cases}
use Rattle.policy.proofs.Shown.{read_known}
use Rattle.policy.proofs.Rules.{rival-found, no-rivals, wall-granted}
use Rattle.policy.proofs.Conflict.{class-told, conflict-of}
use Rattle.policy.proofs.Demand3.{Kept, kept-after, readable}

pub theorem1 : Theorem1
theorem1 r ok ps steps f q log may clash granted =
    ⊎_elim
    (λ d.
    let clear = (wall-granted r row q.folder q.kind (rw d.answered at granted)).0 in
    not-both
    (rival-found r row q.folder f (readable r ok ps σ kept q log d f may) clash)
    (no-rivals r row q.folder q.kind clear f (read_known r σ kept.shown (person_of ps q.login) f may)))
    (λ n. not-both (rw granted refl) n.0)
    (outcome-cases r ps σ.matrix q log)
  where
    σ : State
    σ = run r ps (blank r) steps

    row : List ℕ
    row = row_of r σ.matrix (person_of ps q.login)

    kept : Kept r (run r ps (blank r) steps)
    kept = kept-after r ok ps steps

pub theorem1-by-classes : Theorem1ByClasses
theorem1-by-classes r ok mode ps steps f q log may class other =
    theorem1 r ok ps steps f q log may (rw mode (class-told r f q.folder class other))

pub theorem2 : Theorem2
theorem2 r ok ps steps s f g a b =
    ⊎_elim (λ e. absurd (kept.clean.apart s f g a b (conflict-of r ok f g (known f a) (known g b) e))) (λ e. e) (true-or-false (in_conflict r f g))
  where
    kept : Kept r (run r ps (blank r) steps)
    kept = kept-after r ok ps steps

    known : (f : ℕ) → (run r ps (blank r) steps).rights.read s f ≡ true → f < folders r
    known f e = read_known r (run r ps (blank r) steps) kept.shown s f e

pub theorem2-by-classes : Theorem2ByClasses
theorem2-by-classes r ok mode ps steps s f g a b class =
    elim (ℕ_discrete (client_of r f) (client_of r g)) [
      | yes e ↦ e
      | no e ↦ not-both (class-told r f g class e) (rw mode at (theorem2 r ok ps steps s f g a b))
    ]

pub theorem4 : Theorem4
theorem4 r ok ps steps f c h = (kept-after r ok ps steps).held.own-only f c h
