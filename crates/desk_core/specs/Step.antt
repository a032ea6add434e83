-- What a request line prints, and what ends the run. `Joined.antt` says that with the opening the steps make the whole output, so no rule of
-- document 01 stands here.
use Rattle.std.specs.Prelude.{ℕ, Bool, true, false, List, Option, Some, None}
use Rattle.ids.specs.declared.Request as ids
use Rattle.register.specs.Register.{Register}
use Rattle.policy.specs.Outcome.{Log, Outcome, outcome}
use Rattle.policy.specs.Session.{answer_line}
use Rattle.policy.specs.Session as session
use Rattle.log_writer.specs.declared.Tail.{Tail}
use Rattle.desk_lines.specs.Lines.{Line, logins_line, folder_line, request_line, ill_line, line_at}
use Rattle.text_lines.specs.Text.{text_of}
use Rattle.desk_core.specs.declared.Progress.{Progress}
use Rattle.desk_core.specs.Output.{line_text, ending}

-- What a step leaves: what is printed, whether the run goes on, and the place, the matrix and the log with which it does.
pub record Stepped : Type 0 where
  pub text : List ℕ
  pub onward : Bool
  pub place : ℕ
  pub matrix : List ℕ
  pub log : Log

-- The run is over: an ill-formed or misplaced line is told, if there is one.
abbrev pub over : List ℕ → (place : ℕ) → (matrix : List ℕ) → Log → Stepped
over text place matrix log =
    record {
      text = ending text place;
      onward = false;
      place = place;
      matrix = matrix;
      log = log;
    }

-- A request line prints its line and goes on after it; anything else, or the end, ends the run.
abbrev pub stepped_on : Line → List ℕ → Register → (persons : List ℕ) (place : ℕ) → (matrix : List ℕ) → Log → Stepped
stepped_on (request_line kind login o next) text r persons place matrix log =
    let x : Outcome = outcome r persons matrix (session.request kind login o) log in
    record {
      text = line_text (answer_line log x);
      onward = true;
      place = next;
      matrix = x.matrix;
      log = x.log;
    }
stepped_on (logins_line n next) text r persons place matrix log = over text place matrix log
stepped_on (folder_line class client next) text r persons place matrix log = over text place matrix log
stepped_on ill_line text r persons place matrix log = over text place matrix log

unfoldable pub stepped : List ℕ → Register → (persons : List ℕ) (place : ℕ) → (matrix : List ℕ) → Log → Stepped
stepped text r persons place matrix log = stepped_on (line_at text place) text r persons place matrix log

-- The request that a line asks for, and the place after it.
abbrev pub request_of : Line → Option (ids.Request × ℕ)
request_of (request_line kind login o next) = Some (record { login = record { 0 = login }; folder = record { 0 = o }; kind = kind }, next)
request_of (logins_line n next) = None
request_of (folder_line class client next) = None
request_of ill_line = None

-- The same as it is handed back, with the lent matrix and log.
pub record Left : Type 0 where
  pub step : Progress
  pub matrix : List ℕ
  pub log : List ℕ

abbrev pub left : Progress → List ℕ → List ℕ → Left
left step matrix log =
    record {
      step = step;
      matrix = matrix;
      log = log;
    }

-- Where the log ends, and the serial of its next record.
abbrev pub tail_of : Log → Tail
tail_of log =
    record {
      end = log.end;
      serial = log.serial;
    }

abbrev pub left_by : Stepped → Left
left_by x =
    record {
      step = record {
        text = text_of x.text;
        onward = x.onward;
        place = x.place;
        tail = tail_of x.log;
      };
      matrix = x.matrix;
      log = x.log.bytes;
    }
