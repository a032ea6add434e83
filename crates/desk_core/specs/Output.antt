-- What the desk prints for a whole input (document 01, 'The desk program'). The folders that it gives are in `Folders.antt` of `desk_opening`.
use Rattle.std.specs.Prelude.{ℕ, zero, suc, ◌*◌, cond, ◌||◌, List, [], ◌∷◌, ◌++◌, eqb, leb, ltb, length, replicate}
use Rattle.person_list.specs.PersonList.{own_numbers}
use Rattle.register.specs.Register.{Register, folders, register_answer}
use Rattle.policy.specs.Outcome.{Request}
use Rattle.policy.specs.Session.{AnswerLine, serial_line, dash_line, new_log, session}
use Rattle.policy.specs.Session as session
use Rattle.desk_lines.specs.Lines.{Line, logins_line, folder_line, request_line, ill_line, line_at}
use Rattle.line_numbers.specs.LineNumber.{line_number}
use Rattle.desk_opening.specs.Folders.{Filed, filed_at, register_filed, is_request}
use Rattle.desk_print.specs.Lines.{input_too_long, bad_line, bad_register, serial_text, dash_text}

-- ---- the requests

-- The requests that lines ask for, and the place after the last of these lines.
pub record Asked : Type 0 where
  pub requests : List Request
  pub place : ℕ

abbrev pub asked : List Request → ℕ → Asked
asked requests place =
    record {
      requests = requests;
      place = place;
    }

-- A request's line is put before the requests that follow; any other line ends them.
abbrev pub asked_on : Line → ℕ → (ℕ → Asked) → Asked
asked_on (request_line kind login o next) place more = asked (session.request kind login o ∷ (more next).requests) (more next).place
asked_on (logins_line n next) place more = asked [] place
asked_on (folder_line class client next) place more = asked [] place
asked_on ill_line place more = asked [] place

-- The requests from a place on.
unfoldable pub asked_by : (fuel : ℕ) → List ℕ → ℕ → Asked
asked_by zero text place = asked [] place
asked_by (suc fuel) text place = asked_on (line_at text place) place (asked_by fuel text)

unfoldable pub asked_at : List ℕ → ℕ → Asked
asked_at text place = asked_by (length text) text place

-- ---- the output

-- The line printed for a request, and the lines printed for several.
abbrev pub line_text : AnswerLine → List ℕ
line_text (serial_line serial number list) = serial_text serial number list
line_text (dash_line number) = dash_text number

unfoldable pub lines_text : List AnswerLine → List ℕ
lines_text [] = []
lines_text (line ∷ lines) = line_text line ++ lines_text lines

-- What ends the run at a place: nothing at the input's end; else a line that is ill-formed or misplaced there.
unfoldable pub ending : List ℕ → ℕ → List ℕ
ending text place = cond (leb (length text) place) [] (bad_line (line_number text place))

-- What the requests print, with a blank matrix and a new log, and then what ends the run. 'The desk program gives every login its own number'
-- (document 02, C-14).
unfoldable pub served : Register → List ℕ → ℕ → List ℕ
served r text place =
    lines_text (session r (own_numbers r.logins) (replicate (r.logins * folders r) 0) new_log (asked_at text place).requests).lines
    ++ ending text (asked_at text place).place

-- The register's check: 'its refusal prints `register`, the number and the folders carried, and ends the run'.
unfoldable pub checked_then : Register → List ℕ → List ℕ
checked_then r rest = cond (eqb (register_answer r).number 0) rest (bad_register (register_answer r))

-- After the folders: 'the register is checked at the first request or at the end', and the requests follow; any other line is ill-formed or
-- misplaced.
unfoldable pub filed_then : (p : ℕ) → List ℕ → Filed → List ℕ
filed_then p text f =
    cond (is_request (line_at text f.place) || leb (length text) f.place)
    (checked_then (register_filed p f) (served (register_filed p f) text f.place))
    (bad_line (line_number text f.place))

-- 'First `P n`.'
abbrev pub first_then : Line → List ℕ → List ℕ
first_then (logins_line p next) text = filed_then p text (filed_at text next)
first_then (folder_line class client next) text = bad_line 1
first_then (request_line kind login o next) text = bad_line 1
first_then ill_line text = bad_line 1

-- The whole output. 'At most 65,536 bytes (else it prints `input 41`).'
unfoldable pub output : List ℕ → List ℕ
output text = cond (ltb 65536 (length text)) input_too_long (first_then (line_at text 0) text)
