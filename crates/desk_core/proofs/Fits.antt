-- What a step prints fits in 4,096 bytes.
use Prim.Native.Nat.{ℕ, ◌≤◌, ◌<◌, ◌^◌}
use native.Mathlib.Omega.{arith}
use mathlib.Core.Path.{◌≡◌}
use mathlib.Core.Logic.{◌⊎◌, inl, inr}
use mathlib.Core.Bool.{Bool, true, false, cond}
use mathlib.Core.List.{List, []}
use lib.Dec.{leb}
use lib.ListN.{length}
use Rattle.vocabulary.proofs.Bools.{true-or-false}
use Rattle.register.specs.Register.{Register}
use Rattle.policy.specs.Outcome.{Request, Log, is_logged, outcome}
use Rattle.policy.specs.Session.{answer_line}
use Rattle.policy.specs.Session as session
use Rattle.log_exact.proofs.Rising.{rising-less}
use Rattle.log_exact.proofs.Appended.{logged-well-formed}
use Rattle.desk_lines.specs.Lines.{Line, logins_line, folder_line, request_line, ill_line, line_at}
use Rattle.line_numbers.specs.LineNumber.{line_number}
use Rattle.desk_print.specs.Lines.{bad_line}
use Rattle.desk_print.proofs.Fits.{serial-fits, dash-fits}
use Rattle.desk_opening.proofs.Fits.{line-number-fits}
use Rattle.desk_core.specs.Output.{line_text, ending}
use Rattle.desk_core.specs.Step.{stepped_on, stepped}
use Rattle.desk_core.proofs.Small.{rising-small, outcome-most}

ending-fits : (text : List ℕ) (place : ℕ) → length text < 2 ^ 64 → length (ending text place) ≤ 4096
unfolding ending
ending-fits text place h = by (leb (length text) place) (line-number-fits text place h)
  where
    by : (b : Bool) → length (bad_line (line_number text place)) ≤ 4096 → length (cond b [] (bad_line (line_number text place))) ≤ 4096
    by true k = omega arith
    by false k = k

line-fits : (r : Register) (ps m : List ℕ) (q : Request) (log : Log) → log.serial ≤ 65535 → length (line_text (answer_line log (outcome r ps m q log))) ≤ 4096
line-fits r ps m q log h = by (true-or-false (is_logged (outcome r ps m q log).answer))
  where
    number : (outcome r ps m q log).answer.number < 65536
    number = omega (arith, outcome-most r ps m q log)

    by : (is_logged (outcome r ps m q log).answer ≡ true) ⊎ (is_logged (outcome r ps m q log).answer ≡ false) → length (line_text (answer_line log (outcome r ps m q log))) ≤ 4096
    by (inl l) =
        let w = logged-well-formed r ps m q log l h in
        let list = (outcome r ps m q log).answer.carried in
        let few = rising-less q.folder list w.folder w.list in
        rw l (serial-fits log.serial (outcome r ps m q log).answer.number list (omega arith) number (rising-small q.folder 0 list w.list) (omega arith))
    by (inr l) = rw l (dash-fits (outcome r ps m q log).answer.number number)

pub step_fits : (text : List ℕ) (r : Register) (ps : List ℕ) (place : ℕ) (matrix : List ℕ) (log : Log) → length text < 2 ^ 64 → log.serial ≤ 65535
    → length (stepped text r ps place matrix log).text ≤ 4096
unfolding stepped
step_fits text r ps place matrix log h k = by (line_at text place)
  where
    by : (line : Line) → length (stepped_on line text r ps place matrix log).text ≤ 4096
    by (request_line kind login o next) = line-fits r ps matrix (session.request kind login o) log k
    by (logins_line n next) = ending-fits text place h
    by (folder_line class client next) = ending-fits text place h
    by ill_line = ending-fits text place h
