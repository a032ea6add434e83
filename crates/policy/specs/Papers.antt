-- The 1989 paper's theorems 1, 2 and 4 about the histories of demand 3: corollaries, so that a reader of the paper finds them; in terms of conflict,
-- for both modes (document 02, C-12), and by classes, as the paper has them. The paper's subject is the user, and so is it here: theorems 1 and 2 are
-- about a person, whichever of that person's logins asks (C-14); theorem 4 is about what folders hold after everybody's steps. Access is a read right
-- here: write rights may be gathered over many clients, even in conflict, while nothing unsanitised has been read.
use Rattle.std.specs.Prelude.{ℕ, ◌≡◌, true, false, List}
use Rattle.person_list.specs.PersonList.{person_of}
use Rattle.register.specs.Register.{Register, Accepted, class_of, client_of}
use Rattle.policy.specs.Conflict.{in_conflict}
use Rattle.policy.specs.Outcome.{Request, Log, outcome}
use Rattle.policy.specs.Wall.{Own, wall_of}
use Rattle.policy.specs.History.{Step, blank, run}

-- Theorem 1: 'Once a subject has accessed an object the only other objects accessible by that subject lie within the same company
-- dataset or within a different conflict of interest class.' A request for a folder whose client is in conflict with that of one that the person
-- may read is never granted, to any of that person's logins.
abbrev pub Theorem1 : Type 0
Theorem1 =
    (r : Register) → Accepted r → (persons : List ℕ) (steps : List Step) (f : ℕ) (q : Request) (log : Log) →
    (run r persons (blank r) steps).rights.read (person_of persons q.login) f ≡ true →
    in_conflict r f q.folder ≡ true →
    (outcome r persons (run r persons (blank r) steps).matrix q log).answer.number ≡ 0 → ⊥

-- By classes: a request for a folder of the class of one that the person may read, and of another client.
abbrev pub Theorem1ByClasses : Type 0
Theorem1ByClasses =
    (r : Register) → Accepted r → r.by_pairs ≡ false → (persons : List ℕ) (steps : List Step) (f : ℕ) (q : Request) (log : Log) →
    (run r persons (blank r) steps).rights.read (person_of persons q.login) f ≡ true →
    class_of r f ≡ class_of r q.folder →
    (client_of r f ≡ client_of r q.folder → ⊥) →
    (outcome r persons (run r persons (blank r) steps).matrix q log).answer.number ≡ 0 → ⊥

-- Theorem 2: 'A subject can at most have access to one company dataset in each conflict of interest class.' No two folders that person s
-- may read are of clients in conflict.
abbrev pub Theorem2 : Type 0
Theorem2 =
    (r : Register) → Accepted r → (persons : List ℕ) (steps : List Step) (s f g : ℕ) →
    (run r persons (blank r) steps).rights.read s f ≡ true →
    (run r persons (blank r) steps).rights.read s g ≡ true →
    in_conflict r f g ≡ false

-- By classes: two such folders of one class are of one client.
abbrev pub Theorem2ByClasses : Type 0
Theorem2ByClasses =
    (r : Register) → Accepted r → r.by_pairs ≡ false → (persons : List ℕ) (steps : List Step) (s f g : ℕ) →
    (run r persons (blank r) steps).rights.read s f ≡ true →
    (run r persons (blank r) steps).rights.read s g ≡ true →
    class_of r f ≡ class_of r g → client_of r f ≡ client_of r g

-- Theorem 4: 'The flow of unsanitized information is confined to its own company dataset.' Whatever client a folder holds is its own, in either mode.
abbrev pub Theorem4 : Type 0
Theorem4 =
    (r : Register) → Accepted r → (persons : List ℕ) (steps : List Step) (f c : ℕ) →
    (run r persons (blank r) steps).held.folder f c → Own (wall_of r) f c
