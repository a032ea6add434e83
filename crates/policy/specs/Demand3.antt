-- Demand 3 (document 01, 'Who holds what'; document 02, C-12 and C-14): no sequence of requests and uses breaks the wall, the matrix shows just the
-- rights that stand, and no 20, 21 or 22 is given needlessly.
use Rattle.std.specs.Prelude.{ℕ, ◌*◌, ◌≡◌, true, List, ◌∷◌, ◌++◌, length}
use Rattle.person_list.specs.PersonList.{person_of}
use Rattle.register.specs.Register.{Register, Accepted, folders}
use Rattle.policy.specs.Rules.{row_of, cell, cell_for}
use Rattle.policy.specs.Outcome.{Request, Log, by_wall, outcome}
use Rattle.policy.specs.Wall.{Rights, Broken, Needful, wall_of}
use Rattle.policy.specs.History.{Step, ask, State, blank, run}

-- The cell of the rights that stand of person s on f.
abbrev pub cell_standing : Rights → ℕ → ℕ → ℕ
cell_standing k s f = cell_for (k.read s f) (k.write s f)

-- 'After every list the matrix shows just these rights': it has its P times F cells, and every cell is that of the rights that stand.
-- (A person or folder out of range has no cell: it is read as 0, and no right stands.)
pub record Shows (r : Register) (σ : State) : Type 0 where
  pub whole : length σ.matrix ≡ r.logins * folders r
  pub cells : (s f : ℕ) → cell (row_of r σ.matrix s) f ≡ cell_standing σ.rights s f

-- Each 20, 21 or 22 in the list was needful, judged by the rights and holdings at that moment, those of the person of the login that asked.
abbrev pub NeedfulRefusals : Register → (persons : List ℕ) → List Step → Type 0
NeedfulRefusals r persons steps =
    (before rest : List Step) (q : Request) (log : Log) →
    steps ≡ before ++ (ask q log ∷ rest) →
    by_wall (outcome r persons (run r persons (blank r) before).matrix q log).answer ≡ true →
    Needful (wall_of r) (run r persons (blank r) before).rights (run r persons (blank r) before).held (person_of persons q.login) q.folder q.kind

-- What holds after a list of steps.
pub record Safe (r : Register) (persons : List ℕ) (steps : List Step) : Type 0 where
  pub unbroken : Broken (wall_of r) (run r persons (blank r) steps).held → ⊥
  pub shown : Shows r (run r persons (blank r) steps)
  pub needful : NeedfulRefusals r persons steps

-- Demand 3, whole: of every accepted register, by classes or by pairs, and any person list, both of which are kept throughout, and every list of
-- steps. (With a person list that gets 10 nothing is ever granted.)
abbrev pub Demand3 : Type 0
Demand3 = (r : Register) → Accepted r → (persons : List ℕ) (steps : List Step) → Safe r persons steps
