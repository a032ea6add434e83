-- What is printed before the first request, and what the run goes on with. `Joined.antt` of `desk_core` says that with the steps it makes the
-- whole output, so no rule of document 01 stands here.
use Rattle.std.specs.Prelude.{ℕ, Bool, true, false, cond, ◌||◌, List, [], eqb, leb, ltb, length, Result, Ok, Err}
use Rattle.register.specs.Register.{Register, register_of, register_answer}
use Rattle.desk_lines.specs.Lines.{Line, logins_line, folder_line, request_line, ill_line, line_at}
use Rattle.line_numbers.specs.LineNumber.{line_number}
use Rattle.text_lines.specs.Text.{text_of}
use Rattle.desk_print.specs.Lines.{input_too_long, bad_line, bad_register}
use Rattle.text_lines.specs.declared.text.Text.{Text}
use Rattle.desk_opening.specs.declared.opening.Opening.{Opening}
use Rattle.desk_opening.specs.Folders.{Filed, filed_at, register_filed, is_request}

-- The input up to its first request, or up to its end: what is printed of it, and, if the run goes on, the register and the place after it.
pub record Opened : Type 0 where
  pub text : List ℕ
  pub onward : Bool
  pub register : Register
  pub place : ℕ

-- The run ends with this text.
abbrev pub closed_with : List ℕ → Opened
closed_with text =
    record {
      text = text;
      onward = false;
      register = register_of 0 [] [];
      place = 0;
    }

-- The register is checked; nothing is printed where it is accepted.
unfoldable pub opened_with : Register → ℕ → Opened
opened_with r place =
    cond (eqb (register_answer r).number 0)
    (record {
      text = [];
      onward = true;
      register = r;
      place = place;
    })
    (closed_with (bad_register (register_answer r)))

unfoldable pub opened_on : (p : ℕ) → List ℕ → Filed → Opened
opened_on p text f =
    cond (is_request (line_at text f.place) || leb (length text) f.place)
    (opened_with (register_filed p f) f.place)
    (closed_with (bad_line (line_number text f.place)))

abbrev pub first_on : Line → List ℕ → Opened
first_on (logins_line p next) text = opened_on p text (filed_at text next)
first_on (folder_line class client next) text = closed_with (bad_line 1)
first_on (request_line kind login o next) text = closed_with (bad_line 1)
first_on ill_line text = closed_with (bad_line 1)

unfoldable pub opened : List ℕ → Opened
opened text = cond (ltb 65536 (length text)) (closed_with input_too_long) (first_on (line_at text 0) text)

-- The same as it is handed back: the text where the run ends, and the register and the place where it goes on.
abbrev pub opening_of : Opened → Result Opening Text
opening_of x = cond x.onward (Ok (record { register = x.register; place = x.place })) (Err (text_of x.text))
