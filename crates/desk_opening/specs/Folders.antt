-- The folders that an input gives, and the lines that end them (document 01, 'The desk program').
use Rattle.std.specs.Prelude.{ℕ, zero, suc, Bool, true, false, List, [], ◌∷◌, length}
use Rattle.register.specs.Register.{Register, register_of}
use Rattle.desk_lines.specs.Lines.{Line, logins_line, folder_line, request_line, ill_line, line_at}

-- The labels that lines `F class client` give, and the place after the last of these lines.
pub record Filed : Type 0 where
  pub classes : List ℕ
  pub clients : List ℕ
  pub place : ℕ

abbrev pub filed : List ℕ → List ℕ → ℕ → Filed
filed classes clients place =
    record {
      classes = classes;
      clients = clients;
      place = place;
    }

-- A folder's line is put before the folders that follow; any other line ends them.
abbrev pub filed_on : Line → ℕ → (ℕ → Filed) → Filed
filed_on (folder_line class client next) place more = filed (class ∷ (more next).classes) (client ∷ (more next).clients) (more next).place
filed_on (logins_line n next) place more = filed [] [] place
filed_on (request_line kind login o next) place more = filed [] [] place
filed_on ill_line place more = filed [] [] place

-- The folders from a place on. Fuel that is the text's length is enough, since every line has bytes.
unfoldable pub filed_by : (fuel : ℕ) → List ℕ → ℕ → Filed
filed_by zero text place = filed [] [] place
filed_by (suc fuel) text place = filed_on (line_at text place) place (filed_by fuel text)

unfoldable pub filed_at : List ℕ → ℕ → Filed
filed_at text place = filed_by (length text) text place

-- The register of n logins and these folders.
abbrev pub register_filed : (n : ℕ) → Filed → Register
register_filed n f = register_of n f.classes f.clients

-- Whether a line is a request.
abbrev pub is_request : Line → Bool
is_request (request_line kind login o next) = true
is_request (logins_line n next) = false
is_request (folder_line class client next) = false
is_request ill_line = false
