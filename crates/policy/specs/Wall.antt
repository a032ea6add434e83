-- The wall over a bare notion of conflict between clients, and who holds what (document 01, 'Who holds what'; document 02, C-12 and
-- C-14: 'the wall rule speaks of what a person holds').
use Rattle.std.specs.Prelude.{ℕ, ◌<◌, ◌≡◌, ◌⊎◌, Bool, true, false, ◌&&◌, ◌||◌, not, List, eqb}
use Rattle.vocabulary.specs.Those.{member}
use Rattle.register.specs.Register.{Register, folders, client_of}
use Rattle.policy.specs.Conflict.{in_conflict}
use Rattle.policy.specs.Rules.{reads, writes}

-- A wall: each folder's client, 0 for a sanitised folder, and which clients are in conflict.
pub record Wall : Type 1 where
  pub own : ℕ → ℕ
  pub conflict : ℕ → ℕ → Type 0

-- Client c is folder f's own; 'a sanitised folder has none of its own'.
abbrev pub Own : Wall → ℕ → ℕ → Type 0
Own w f c = (c ≡ w.own f) × (c ≡ 0 → ⊥)

-- ---- rights

-- The rights that stand: of each person on each folder.
pub record Rights : Type 0 where
  pub read : ℕ → ℕ → Bool
  pub write : ℕ → ℕ → Bool

abbrev pub no_rights : Rights
no_rights =
    record {
      read = λ s f. false;
      write = λ s f. false;
    }

-- Whether (t, f) is the person and folder (s, o) asked for.
abbrev pub asked : ℕ → ℕ → ℕ → ℕ → Bool
asked s o t f = eqb t s && eqb f o

-- 'The asked right on o is read for kinds 1 and 2, write for 3, both for 4', joined to the rights that stand.
abbrev pub joined : Rights → ℕ → ℕ → ℕ → Rights
joined k s o kind =
    record {
      read = λ t f. k.read t f || (asked s o t f && reads kind);
      write = λ t f. k.write t f || (asked s o t f && writes kind);
    }

-- 'The read right of s on o stands once a request of s for o, of kind 1, 2 or 4, was granted; the write right stands from a grant
-- of kind 3 or 4 until a later grant to s lists o as lost': the rights after a grant to s for o that lists these folders as lost.
abbrev pub after_grant : Rights → ℕ → ℕ → ℕ → List ℕ → Rights
after_grant k s o kind list =
    record {
      read = λ t f. k.read t f || (asked s o t f && reads kind);
      write = λ t f. (k.write t f && not (eqb t s && member f list)) || (asked s o t f && writes kind);
    }

-- ---- what is held

-- Which clients each person and each folder holds.
pub record Held : Type 1 where
  pub person : ℕ → ℕ → Type 0
  pub folder : ℕ → ℕ → Type 0

-- 'At first a folder holds its own client; a sanitised folder and a login hold none': here a person.
abbrev pub at_first : Wall → Held
at_first w =
    record {
      person = λ s c. ⊥;
      folder = λ f c. Own w f c;
    }

-- A use of a right: by a login in a step of a history, by a person where `used` carries it out; and of which folder.
pub data Use : Type 0 where
  reading : ℕ → ℕ → Use
  writing : ℕ → ℕ → Use

-- 'A reading of o by s adds all that o holds to s, a writing all that s holds to o; without its right standing it does nothing.' Here s is a person.
unfoldable pub used : Rights → Use → Held → Held
used k (reading s o) h =
    record {
      person = λ t c. h.person t c ⊎ ((t ≡ s) × (k.read s o ≡ true) × h.folder o c);
      folder = h.folder;
    }
used k (writing s o) h =
    record {
      person = h.person;
      folder = λ f c. h.folder f c ⊎ ((f ≡ o) × (k.write s o ≡ true) × h.person s c);
    }

-- ---- the wall broken

-- A person holds two clients in conflict.
pub record TwoHeld (w : Wall) (h : Held) : Type 0 where
  pub person : ℕ
  pub one : ℕ
  pub other : ℕ
  pub holds-one : h.person person one
  pub holds-other : h.person person other
  pub in-conflict : w.conflict one other

-- A folder holds a client not its own.
pub record Strayed (w : Wall) (h : Held) : Type 0 where
  pub folder : ℕ
  pub client : ℕ
  pub holds : h.folder folder client
  pub not_own : Own w folder client → ⊥

-- The wall is broken if a person (document 02, C-14; in document 01 a login) holds 'two clients in conflict' (C-12; in document 01 'two clients of
-- one class'), 'or a folder a client not its own'.
abbrev pub Broken : Wall → Held → Type 0
Broken w h = TwoHeld w h ⊎ Strayed w h

-- 'Some reading by s and then some reading or writing by s, starting from what is held at that moment, break the wall.' Both uses are of
-- rights that stand, the asked one joined.
pub record Breaks (w : Wall) (k : Rights) (h : Held) (s : ℕ) : Type 0 where
  pub first : ℕ
  pub second : ℕ
  pub first-right : k.read s first ≡ true
  pub breaks :
      ((k.read s second ≡ true) × Broken w (used k (reading s second) (used k (reading s first) h)))
      ⊎ ((k.write s second ≡ true) × Broken w (used k (writing s second) (used k (reading s first) h)))

-- A refusal to person s of folder o is needful.
abbrev pub Needful : Wall → Rights → Held → ℕ → ℕ → ℕ → Type 0
Needful w k h s o kind = Breaks w (joined k s o kind) h s

-- ---- the wall of a register

-- Clients c and d are in conflict: the register has a folder of each, and `in_conflict` holds of these two, by classes or by pairs.
pub record Conflict (r : Register) (c d : ℕ) : Type 0 where
  pub one : ℕ
  pub other : ℕ
  pub one_known : one < folders r
  pub other-known : other < folders r
  pub one-client : client_of r one ≡ c
  pub other-client : client_of r other ≡ d
  pub folders-conflict : in_conflict r one other ≡ true

abbrev pub wall_of : Register → Wall
wall_of r =
    record {
      own = client_of r;
      conflict = Conflict r;
    }
