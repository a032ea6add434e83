-- What tells the two modes apart, and what ties them together (document 02, C-12): neither looks at what the other goes by; and with the pairs of a
-- register by classes written out, pair mode gives class mode's answer to every request on every row.
use Rattle.std.specs.Prelude.{ℕ, zero, suc, ◌≤◌, ◌<◌, ◌≡◌, Bool, true, false, cond, not, ◌&&◌, List, [], ◌∷◌, ◌++◌, map, length, get_or, replicate, eqb}
use Rattle.vocabulary.specs.Those.{those, some}
use Rattle.person_list.specs.PersonList.{own_numbers}
use Rattle.register.specs.Register.{Register, register_by, folders, client_of, Accepted}
use Rattle.policy.specs.Conflict.{one_class, paired}
use Rattle.register.specs.Claims.{in_classes}
use Rattle.policy.specs.Outcome.{Request, Log, outcome}
use Rattle.policy.specs.Session.{serial_line, session, request, new_log}

-- ---- what each mode goes by

-- The same register with other classes.
abbrev pub with_classes : Register → List ℕ → Register
with_classes r classes = register_by r.logins classes r.clients r.by_pairs r.firsts r.seconds

pub record Unread : Type 0 where
  -- By classes the pairs play no part, malformed or not.
  pub pairs : (r : Register) → r.by_pairs ≡ false →
      (persons matrix : List ℕ) (q : Request) (log : Log) → outcome r persons matrix q log ≡ outcome (in_classes r) persons matrix q log
  -- By pairs the classes play no part beyond refusals 1 to 3.
  pub classes : (r : Register) (classes : List ℕ) → r.by_pairs ≡ true → length classes ≡ folders r → Accepted r → Accepted (with_classes r classes) →
      (persons matrix : List ℕ) (q : Request) (log : Log) → outcome r persons matrix q log ≡ outcome (with_classes r classes) persons matrix q log

-- 'Two readers may each conflict with one author, not with each other': folder 0 is the author's, client 7, folders 1 and 2 are the readers', 8 and
-- 9, all of one class. Either reader's folder may be read beside the other's, and the author's beside neither.
abbrev pub readers_register : Register
readers_register = register_by 1 (1 ∷ 1 ∷ 1 ∷ []) (7 ∷ 8 ∷ 9 ∷ []) true (7 ∷ 9 ∷ []) (8 ∷ 7 ∷ [])

abbrev pub TwoReaders : Type 0
TwoReaders =
    (session readers_register (own_numbers 1) (replicate 3 0) new_log (request 1 0 1 ∷ request 1 0 2 ∷ request 1 0 0 ∷ [])).lines
    ≡ serial_line 0 0 [] ∷ serial_line 1 0 [] ∷ serial_line 2 20 (1 ∷ []) ∷ []

-- ---- a register by classes, written out

-- The same logins and folders, by these pairs.
abbrev pub in_pairs : Register → List ℕ → List ℕ → Register
in_pairs r firsts seconds = register_by r.logins r.classes r.clients true firsts seconds

-- Two folders of one class and of these two clients.
pub record OneClassOf (r : Register) (c d : ℕ) : Type 0 where
  pub one : ℕ
  pub other : ℕ
  pub one_known : one < folders r
  pub other-known : other < folders r
  pub one-client : client_of r one ≡ c
  pub other-client : client_of r other ≡ d
  pub alike : one_class r one other ≡ true

-- At most 256 pairs that write out a register's classes, in any order, each either way round, also repeated: each is of two clients of one class, and
-- every two clients of one class stand in some pair.
pub record WrittenOut (r : Register) (firsts seconds : List ℕ) : Type 0 where
  pub equal : length firsts ≡ length seconds
  pub few : length firsts ≤ 256
  pub sound : (i : ℕ) → i < length firsts → OneClassOf r (get_or firsts i 0) (get_or seconds i 0)
  pub whole : (f g : ℕ) → f < folders r → g < folders r → one_class r f g ≡ true → paired (in_pairs r firsts seconds) (client_of r f) (client_of r g) ≡ true

-- Answer, matrix and log are the same, of every accepted register by classes, however it is written out.
abbrev pub SameByPairs : Type 0
SameByPairs =
    (r : Register) → Accepted r → r.by_pairs ≡ false → (firsts seconds : List ℕ) → WrittenOut r firsts seconds →
    (persons matrix : List ℕ) (q : Request) (log : Log) → outcome (in_pairs r firsts seconds) persons matrix q log ≡ outcome r persons matrix q log

-- ---- each pair once

-- No earlier folder is of f's client.
abbrev pub new_client : Register → ℕ → Bool
new_client r f = not (some (those (λ g. eqb (client_of r g) (client_of r f)) f))

-- Where f is its client's first folder: the earlier first folders of the other clients of its class.
unfoldable pub facing : Register → ℕ → List ℕ
facing r f = cond (new_client r f) (those (λ g. new_client r g && one_class r g f) f) []

-- The pairs of the folders below n: each two clients of one class once, the one found first before the other.
unfoldable pub written_firsts : Register → (n : ℕ) → List ℕ
written_firsts r zero = []
written_firsts r (suc n) = written_firsts r n ++ map (client_of r) (facing r n)

unfoldable pub written_seconds : Register → (n : ℕ) → List ℕ
written_seconds r zero = []
written_seconds r (suc n) = written_seconds r n ++ replicate (length (facing r n)) (client_of r n)

-- So every accepted register whose classes have at most 256 such pairs can be written out.
abbrev pub CanBeWritten : Type 0
CanBeWritten =
    (r : Register) → Accepted r → length (written_firsts r (folders r)) ≤ 256 →
    WrittenOut r (written_firsts r (folders r)) (written_seconds r (folders r))
