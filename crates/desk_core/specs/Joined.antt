-- The opening and the steps print the whole output, and none of them prints more than its buffer holds.
use Rattle.std.specs.Prelude.{ℕ, zero, suc, ◌*◌, ◌≤◌, ◌<◌, ◌^◌, ◌≡◌, cond, List, [], ◌++◌, length, replicate, take, Result, Ok, Err}
use Rattle.person_list.specs.PersonList.{own_numbers}
use Rattle.register.specs.Register.{Register, folders}
use Rattle.policy.specs.Outcome.{Log}
use Rattle.policy.specs.Session.{new_log}
use Rattle.log_writer.specs.Reply.{log_of}
use Rattle.text_lines.specs.declared.text.Text.{Text}
use Rattle.text_lines.specs.Text.{shown}
use Rattle.desk_opening.specs.declared.opening.Opening.{Opening}
use Rattle.desk_opening.specs.Opened.{opened, opening_of}
use Rattle.desk_core.specs.Output.{output}
use Rattle.desk_core.specs.Step.{stepped, Left, left_by}

-- What steps print, one after the other while the run goes on, each with the place, the matrix and the log that the one before left.
unfoldable pub steps_by : (fuel : ℕ) → List ℕ → Register → (persons : List ℕ) (place : ℕ) → (matrix : List ℕ) → Log → List ℕ
steps_by zero text r persons place matrix log = []
steps_by (suc fuel) text r persons place matrix log =
    let x : Left = left_by (stepped text r persons place matrix log) in
    shown x.step.text ++ cond x.step.onward (steps_by fuel text r persons x.step.place x.matrix (log_of x.log x.step.tail)) []

-- A run: the opening, and then the steps with each login its own person, from a blank matrix and a new log. One step more than the text has bytes is
-- enough: every request line has bytes, and one step finds the end.
abbrev pub run_on : List ℕ → Result Opening Text → List ℕ
run_on text (Ok x) =
    let r : Register = x.register in
    steps_by (suc (length text)) text r (take r.logins (own_numbers 128)) x.place (replicate (r.logins * folders r) 0) new_log
run_on text (Err ended) = shown ended

unfoldable pub run : List ℕ → List ℕ
run text = run_on text (opening_of (opened text))

pub record Joined : Type 0 where
  -- A run prints the whole output: nothing is cut off, and nothing is printed twice.
  pub whole : (text : List ℕ) → run text ≡ output text
  -- What the opening prints, and what a step prints, fits in 4,096 bytes.
  pub opening-fits : (text : List ℕ) → length (opened text).text ≤ 4096
  pub step_fits : (text : List ℕ) (r : Register) (persons : List ℕ) (place : ℕ) (matrix : List ℕ) (log : Log) → length text < 2 ^ 64 → log.serial ≤ 65535
      → length (stepped text r persons place matrix log).text ≤ 4096
