-- The register and the rows of the refusal table that judge it (document 01, 'The register' and 'Where each refusal is checked'; document 02, C-12).
use Rattle.std.specs.Prelude.{ℕ, ◌≡◌, Bool, true, false, not, ◌&&◌, ◌||◌, List, [], ◌∷◌, length, get_or, leb, ltb, eqb}
use Rattle.vocabulary.specs.Answer.{Answer, Check, answer, check, judge}
use Rattle.vocabulary.specs.Those.{those, some, smallest}

-- The register: the number of logins, each folder's class and client in folder order, the wall's mode, and pairs of clients, in two lists.
pub record Register : Type 0 where
  -- P
  pub logins : ℕ
  pub classes : List ℕ
  pub clients : List ℕ
  -- The mode: conflicts by pairs, or by classes.
  pub by_pairs : Bool
  pub firsts : List ℕ
  pub seconds : List ℕ

-- A register in either mode.
abbrev pub register_by : ℕ → List ℕ → List ℕ → Bool → List ℕ → List ℕ → Register
register_by logins classes clients by_pairs firsts seconds =
    record {
      logins = logins;
      classes = classes;
      clients = clients;
      by_pairs = by_pairs;
      firsts = firsts;
      seconds = seconds;
    }

-- A register by classes, as document 01 has it.
abbrev pub register_of : ℕ → List ℕ → List ℕ → Register
register_of logins classes clients = register_by logins classes clients false [] []

-- F, the number of folders.
abbrev pub folders : Register → ℕ
folders r = length r.classes

abbrev pub class_of : Register → ℕ → ℕ
class_of r f = get_or r.classes f 0

abbrev pub client_of : Register → ℕ → ℕ
client_of r f = get_or r.clients f 0

-- A sanitised folder: client 0 with class 0. Refusal 2 keeps either 0 from standing without the other, so the client alone tells.
abbrev pub sanitised : Register → ℕ → Bool
sanitised r f = eqb (client_of r f) 0

-- P and F within their ranges and the lists of classes and clients of equal length; else refusal 1.
abbrev pub in_range : Register → Bool
in_range r = leb 1 r.logins && leb r.logins 128 && leb 1 (folders r) && leb (folders r) 512 && eqb (folders r) (length r.clients)

-- Exactly one of two tests holds.
abbrev pub exactly_one : Bool → Bool → Bool
exactly_one true b = not b
exactly_one false b = b

-- Refusal 2: exactly one of class and client is 0.
abbrev pub lone_zero : Register → ℕ → Bool
lone_zero r f = exactly_one (eqb (class_of r f) 0) (eqb (client_of r f) 0)

-- Refusal 3: folder g is of f's client and has another class.
abbrev pub differs : Register → ℕ → ℕ → Bool
differs r f g = eqb (client_of r g) (client_of r f) && not (eqb (class_of r g) (class_of r f))

-- The earlier folders from which f differs so.
unfoldable pub earlier : Register → ℕ → List ℕ
earlier r f = those (differs r f) f

-- The folders that differ so from an earlier one.
unfoldable pub later : Register → List ℕ
later r = those (λ f. some (earlier r f)) (folders r)

-- The table's row 3: a client has two classes.
abbrev pub two_classes : Register → Check
two_classes r = check (some (later r)) 3 (smallest (later r) ∷ smallest (earlier r (smallest (later r))) ∷ [])

-- How many pairs there are, and the two clients of a pair.
abbrev pub pairs : Register → ℕ
pairs r = length r.firsts

abbrev pub first_at : Register → ℕ → ℕ
first_at r i = get_or r.firsts i 0

abbrev pub second_at : Register → ℕ → ℕ
second_at r i = get_or r.seconds i 0

-- 'A pair naming client 0 or one client twice.'
abbrev pub bad_pair : Register → ℕ → Bool
bad_pair r i = eqb (first_at r i) 0 || eqb (second_at r i) 0 || eqb (first_at r i) (second_at r i)

-- Refusal 11: 'lists of unequal length, over 256 pairs, a pair naming client 0 or one client twice'.
unfoldable pub bad_pairs : Register → Bool
bad_pairs r = not (eqb (pairs r) (length r.seconds)) || ltb 256 (pairs r) || some (those (bad_pair r) (pairs r))

-- The table's rows for the register. Refusal 2 is sought through the whole register before 3; 'in pair mode the register check, after 3, gives 11'.
unfoldable pub register_checks : Register → List Check
register_checks r =
    check (not (in_range r)) 1 []
    ∷ check (some (those (lone_zero r) (folders r))) 2 (smallest (those (lone_zero r) (folders r)) ∷ [])
    ∷ two_classes r
    ∷ check (r.by_pairs && bad_pairs r) 11 []
    ∷ []

-- The register check: 0 is 'accepted'.
unfoldable pub register_answer : Register → Answer
register_answer r = judge (register_checks r) (answer 0 [])

-- 'A register is accepted if the register check refuses nothing.'
abbrev pub Accepted : Register → Type 0
Accepted r = (register_answer r).number ≡ 0
