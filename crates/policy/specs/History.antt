-- Histories: every list of requests, readings and writings, from a blank matrix (document 01, 'Who holds what'; document 02, C-14). Requests and uses
-- are made by logins; rights and what is held are their persons'.
use Rattle.std.specs.Prelude.{ℕ, ◌*◌, cond, List, [], ◌∷◌, replicate, eqb}
use Rattle.vocabulary.specs.Answer.{Answer}
use Rattle.person_list.specs.PersonList.{person_of}
use Rattle.register.specs.Register.{Register, folders}
use Rattle.policy.specs.Outcome.{Request, Log, outcome}
use Rattle.policy.specs.Wall.{Rights, no_rights, after_grant, Held, at_first, Use, reading, writing, used, wall_of}

-- A step: a request, with any log handed to it, or a use, each by a login.
pub data Step : Type 0 where
  ask : Request → Log → Step
  make : Use → Step

-- Where a history stands: the matrix, the rights that stand by the answers given, and what is held.
pub record State : Type 1 where
  pub matrix : List ℕ
  pub rights : Rights
  pub held : Held

-- 'Blank means all 0.'
abbrev pub blank : Register → State
blank r =
    record {
      matrix = replicate (r.logins * folders r) 0;
      rights = no_rights;
      held = at_first (wall_of r);
    }

-- The rights that stand after an answer to a request of person s: only a grant, number 0, moves them.
abbrev pub rights_after : Rights → (s : ℕ) → Request → Answer → Rights
rights_after k s q a =
    cond (eqb a.number 0) (after_grant k s q.folder q.kind a.carried) k

-- A login's use is its person's.
abbrev pub by_person : (persons : List ℕ) → Use → Use
by_person persons (reading login o) = reading (person_of persons login) o
by_person persons (writing login o) = writing (person_of persons login) o

-- One step. 'A request, whatever its answer, moves nothing held.'
unfoldable pub next : Register → (persons : List ℕ) → State → Step → State
next r persons σ (ask q log) =
    record {
      matrix = (outcome r persons σ.matrix q log).matrix;
      rights = rights_after σ.rights (person_of persons q.login) q (outcome r persons σ.matrix q log).answer;
      held = σ.held;
    }
next r persons σ (make u) =
    record {
      matrix = σ.matrix;
      rights = σ.rights;
      held = used σ.rights (by_person persons u) σ.held;
    }

-- A list of steps, the first first: 'the list too is kept throughout', the person list like the register.
unfoldable pub run : Register → (persons : List ℕ) → State → List Step → State
run r persons σ [] = σ
run r persons σ (x ∷ xs) = run r persons (next r persons σ x) xs
