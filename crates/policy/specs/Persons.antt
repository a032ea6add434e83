-- Persons and their logins (document 02, C-14): what the person list comes to in the rules and in the histories of demand 3.
use Rattle.std.specs.Prelude.{ℕ, ◌*◌, ◌≤◌, ◌<◌, ◌≡◌, true, false, List, [], ◌∷◌, ◌++◌, length, replicate, take, drop}
use Rattle.vocabulary.specs.Answer.{Answer, answer}
use Rattle.person_list.specs.PersonList.{person_of, bad_persons, own_numbers}
use Rattle.register.specs.Register.{Register, register_of, folders, Accepted}
use Rattle.policy.specs.Rules.{row_of}
use Rattle.policy.specs.Outcome.{Request, Log, decision, unchanged, outcome}
use Rattle.policy.specs.Wall.{Rights, Held, reading, writing}
use Rattle.policy.specs.History.{Step, make, State, blank, run}
use Rattle.policy.specs.Session.{AnswerLine, Session, serial_line, session, request, new_log}

-- ---- the rules

pub record PersonRules : Type 0 where
  -- With each login its own number the list passes 10, and each login's row is its own: 'each login counts as one person' (document 01).
  pub own-passes : (r : Register) → bad_persons r.logins (own_numbers r.logins) ≡ false
  pub own_row : (r : Register) (matrix : List ℕ) (login : ℕ) → login < r.logins → row_of r matrix (person_of (own_numbers r.logins) login) ≡ row_of r matrix login
  -- 10 is 'judged after 5': an unknown login gets 5 whatever the list.
  pub after-5 : (r : Register) → Accepted r → (persons matrix : List ℕ) → length matrix ≡ r.logins * folders r → (q : Request) (log : Log) →
      r.logins ≤ q.login → outcome r persons matrix q log ≡ unchanged (answer 5 []) matrix log
  -- It is judged before 6 and all that follows: with a list at fault a known login gets 10 whatever else it asks.
  pub before-6 : (r : Register) → Accepted r → (persons matrix : List ℕ) → length matrix ≡ r.logins * folders r → (q : Request) (log : Log) →
      q.login < r.logins → bad_persons r.logins persons ≡ true → outcome r persons matrix q log ≡ unchanged (answer 10 []) matrix log
  -- Whichever of a person's logins asks, the decision is the same: 8, rivals, foreign and at-stake folders are the person's.
  pub alike : (r : Register) (persons matrix : List ℕ) (login other : ℕ) → login < r.logins → other < r.logins →
      person_of persons login ≡ person_of persons other → (kind o : ℕ) (log : Log) →
      decision r persons matrix (request kind login o) log ≡ decision r persons matrix (request kind other o) log

-- ---- histories

-- No right of person s stands, on any folder.
abbrev pub Rightless : Rights → (s : ℕ) → Type 0
Rightless k s = (f : ℕ) → (k.read s f ≡ false) × (k.write s f ≡ false)

-- Whatever the one holds, the other does.
abbrev pub NoMore : Held → Held → Type 0
NoMore h g = ((s c : ℕ) → h.person s c → g.person s c) × ((f c : ℕ) → h.folder f c → g.folder f c)

-- Where a history stands after steps from a blank matrix; and after one step more.
abbrev pub after : Register → (persons : List ℕ) → List Step → State
after r persons steps = run r persons (blank r) steps

abbrev pub and_then : Register → (persons : List ℕ) → List Step → Step → State
and_then r persons steps x = after r persons (steps ++ (x ∷ []))

pub record PersonHistories : Type 0 where
  -- With a list that gets 10 nothing is ever granted.
  pub bad-list : (r : Register) (persons : List ℕ) → bad_persons r.logins persons ≡ true → (steps : List Step) (s : ℕ) →
      Rightless (after r persons steps).rights s
  -- No right of an unknown login stands, with any list: where 10 lets the list pass it is no person, and otherwise nothing is granted.
  pub unknown : (r : Register) → Accepted r → (persons : List ℕ) (steps : List Step) (login : ℕ) → r.logins ≤ login →
      Rightless (after r persons steps).rights (person_of persons login)
  -- So its uses move nothing held.
  pub unknown-reading : (r : Register) → Accepted r → (persons : List ℕ) (steps : List Step) (login o : ℕ) → r.logins ≤ login →
      NoMore (and_then r persons steps (make (reading login o))).held (after r persons steps).held
  pub unknown-writing : (r : Register) → Accepted r → (persons : List ℕ) (steps : List Step) (login o : ℕ) → r.logins ≤ login →
      NoMore (and_then r persons steps (make (writing login o))).held (after r persons steps).held
  -- A person's reading, by whichever login, brings the person all that the folder holds; a writing brings the folder all that the person holds.
  pub reading-feeds : (r : Register) (persons : List ℕ) (steps : List Step) (login o c : ℕ) →
      (after r persons steps).rights.read (person_of persons login) o ≡ true → (after r persons steps).held.folder o c →
      (and_then r persons steps (make (reading login o))).held.person (person_of persons login) c
  pub writing-feeds : (r : Register) (persons : List ℕ) (steps : List Step) (login o c : ℕ) →
      (after r persons steps).rights.write (person_of persons login) o ≡ true → (after r persons steps).held.person (person_of persons login) c →
      (and_then r persons steps (make (writing login o))).held.folder o c

-- ---- 'one head held both rivals'

-- Two logins, and a folder of each of two clients of one class.
abbrev pub partner_register : Register
partner_register = register_of 2 (1 ∷ 1 ∷ []) (7 ∷ 8 ∷ [])

-- Login 0, the desk login, reads folder 0, and login 1, the travel login, folder 1.
abbrev pub partner_session : (persons : List ℕ) → Session
partner_session persons = session partner_register persons (replicate 4 0) new_log (request 1 0 0 ∷ request 1 1 1 ∷ [])

abbrev pub partner_lines : (persons : List ℕ) → List AnswerLine
partner_lines persons = (partner_session persons).lines

-- The desk login, both logins being person 1's, asks to read folder 0 of this matrix.
abbrev pub second_row_answer : (matrix : List ℕ) → Answer
second_row_answer matrix = (outcome partner_register (1 ∷ 1 ∷ []) matrix (request 1 0 0) new_log).answer

pub record OnePartner : Type 0 where
  -- Each its own person: both are granted.
  pub apart : partner_lines (0 ∷ 1 ∷ []) ≡ serial_line 0 0 [] ∷ serial_line 1 0 [] ∷ []
  -- Both of one person, whichever it is: the second is refused, and names the folder that the first may read.
  pub together : partner_lines (0 ∷ 0 ∷ []) ≡ serial_line 0 0 [] ∷ serial_line 1 20 (0 ∷ []) ∷ []
  pub together-too : partner_lines (1 ∷ 1 ∷ []) ≡ serial_line 0 0 [] ∷ serial_line 1 20 (0 ∷ []) ∷ []
  -- 'Requests and log keep the login': the second record, after the 6 bytes of the first, has login 1.
  pub login-logged : take 7 (drop 6 (partner_session (0 ∷ 0 ∷ [])).log.bytes) ≡ 1 ∷ 1 ∷ 1 ∷ 1 ∷ 20 ∷ 1 ∷ 0 ∷ []
  -- '8 now speaks of the person's row': a cell of 9 in it gets 8, and one in the row of the login's own number is not looked at.
  pub row-judged : second_row_answer (0 ∷ 0 ∷ 9 ∷ 0 ∷ []) ≡ answer 8 (0 ∷ [])
  pub row-not-judged : second_row_answer (9 ∷ 0 ∷ 0 ∷ 0 ∷ []) ≡ answer 0 []
