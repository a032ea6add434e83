-- The opening and the steps print the whole output.
use Prim.Native.Nat.{ℕ, zero, suc, ◌+◌, ◌*◌, ◌≤◌, ◌<◌, ◌^◌}
use native.Mathlib.Omega.{arith}
use mathlib.Core.Path.{◌≡◌, refl, ap, sym, ◌∙◌}
use mathlib.Core.Bool.{Bool, true, false, cond, ◌||◌}
use mathlib.Core.Logic.{◌⊎◌, inl, inr}
use mathlib.Core.List.{List, [], ◌++◌, append_assoc, append-nil}
use lib.Dec.{eqb, leb, ltb}
use lib.ListN.{length, replicate}
use borrow.Author.Tests.{eqb-true, ltb-false}
use Rattle.vocabulary.proofs.Bools.{true-or-false}
use Rattle.serial.specs.Serial.{following}
use Rattle.person_list.specs.PersonList.{own_numbers}
use Rattle.person_list.proofs.PersonList.{own-take}
use Rattle.register.specs.Register.{Register, register_of, register_answer}
use Rattle.policy.specs.Outcome.{Request, Log, Outcome, outcome, is_logged}
use Rattle.policy.specs.Session.{new_log, session, answer_line}
use Rattle.policy.specs.Session as session
use Rattle.register.proofs.Answers.{in_range-ranged}
use Rattle.policy.proofs.Accepted.{in-range}
use Rattle.log_exact.proofs.Appended.{logged-left}
use Rattle.log_exact.proofs.WriterPasses.{unlogged-left}
use Rattle.desk_lines.specs.Lines.{Line, logins_line, folder_line, request_line, ill_line, line_at}
use Rattle.desk_opening.specs.Folders.{Filed, filed_at, register_filed, is_request}
use Rattle.desk_core.specs.Output.{asked_by, asked_at, line_text, lines_text, ending, served, checked_then, filed_then, first_then, output}
use Rattle.desk_opening.specs.Opened.{Opened, opened, opened_on, opened_with, first_on, opening_of}
use Rattle.desk_core.specs.Step.{Stepped, stepped}
use Rattle.desk_core.specs.Joined.{steps_by, run_on, run, Joined}
use Rattle.desk_lines.proofs.Onward.{Ahead, line-ahead}
use Rattle.desk_opening.proofs.Fits.{opening-fits}
use Rattle.desk_core.proofs.Fits.{step_fits}

-- A run from an opening on.
abbrev run_of : List ℕ → Opened → List ℕ
run_of text x = run_on text (opening_of x)

-- What steps print, without the buffers.
unfoldable plain_by : (fuel : ℕ) → List ℕ → Register → (ps : List ℕ) (place : ℕ) → (matrix : List ℕ) → Log → List ℕ
plain_by zero text r ps place matrix log = []
plain_by (suc fuel) text r ps place matrix log =
    let s : Stepped = stepped text r ps place matrix log in
    s.text ++ cond s.onward (plain_by fuel text r ps s.place s.matrix s.log) []

-- A serial of 16 bits stays one.
serial-kept : (r : Register) (ps matrix : List ℕ) (q : Request) (log : Log) → log.serial ≤ 65535 → (outcome r ps matrix q log).log.serial ≤ 65535
serial-kept r ps matrix q log h = go (true-or-false (is_logged (outcome r ps matrix q log).answer))
  where
    go : (is_logged (outcome r ps matrix q log).answer ≡ true) ⊎ (is_logged (outcome r ps matrix q log).answer ≡ false) → (outcome r ps matrix q log).log.serial ≤ 65535
    go (inl l) =
        let next : (outcome r ps matrix q log).log.serial ≡ following 65536 log.serial = ap (λ (k : Log). k.serial) (logged-left r ps matrix q log l) in
        rw next (omega arith)
    go (inr l) = rw (unlogged-left r ps matrix q log l) h

-- ---- the steps

module _ (text : List ℕ)
    (fits : (r : Register) (ps : List ℕ) (place : ℕ) (matrix : List ℕ) (log : Log) → log.serial ≤ 65535 → length (stepped text r ps place matrix log).text ≤ 4096) where
  step-serial : (r : Register) (ps : List ℕ) (place : ℕ) (matrix : List ℕ) (log : Log) → log.serial ≤ 65535 → (stepped text r ps place matrix log).log.serial ≤ 65535
  unfolding stepped
  step-serial r ps place matrix log h = go (line_at text place) refl
    where
      go : (line : Line) → line_at text place ≡ line → (stepped text r ps place matrix log).log.serial ≤ 65535
      go (logins_line n next) e = rw e h
      go (folder_line class client next) e = rw e h
      go ill_line e = rw e h
      go (request_line kind login o next) e = rw e (serial-kept r ps matrix (session.request kind login o) log h)

  steps-plain : (k : ℕ) (r : Register) (ps : List ℕ) (place : ℕ) (matrix : List ℕ) (log : Log) → log.serial ≤ 65535
      → steps_by k text r ps place matrix log ≡ plain_by k text r ps place matrix log
  unfolding steps_by plain_by
  steps-plain zero r ps place matrix log h = refl
  steps-plain (suc k) r ps place matrix log h =
      let s = stepped text r ps place matrix log in
      rw (steps-plain k r ps s.place s.matrix s.log (step-serial r ps place matrix log h))

  -- The steps from a place on, with fuel that is enough, print the lines of the requests there and what ends the run.
  abbrev Served : Register → List ℕ → ℕ → Type 0
  Served r ps k =
      (place : ℕ) (matrix : List ℕ) (log : Log) → length text ≤ place + k
      → plain_by (suc k) text r ps place matrix log
      ≡ lines_text (session r ps matrix log (asked_by k text place).requests).lines ++ ending text (asked_by k text place).place

  ahead : (line : Line) (place : ℕ) → line_at text place ≡ line → Ahead text place line
  ahead line place e = rw (← e) (line-ahead text place)

  end-served : (r : Register) (ps : List ℕ) (line : Line) (place : ℕ) (matrix : List ℕ) (log : Log) → line_at text place ≡ line → length text ≤ place
      → plain_by 1 text r ps place matrix log ≡ ending text place
  unfolding plain_by stepped
  end-served r ps (logins_line n next) place matrix log e h = rw e (append-nil (ending text place))
  end-served r ps (folder_line class client next) place matrix log e h = rw e (append-nil (ending text place))
  end-served r ps ill_line place matrix log e h = rw e (append-nil (ending text place))
  end-served r ps (request_line kind login o next) place matrix log e h = let on = ahead (request_line kind login o next) place e in absurd (omega (arith, on.0, on.1))

  line-served : (r : Register) (ps : List ℕ) (k : ℕ) → Served r ps k → (line : Line) (place : ℕ) (matrix : List ℕ) (log : Log) → line_at text place ≡ line
      → length text ≤ place + suc k
      → plain_by (suc (suc k)) text r ps place matrix log
      ≡ lines_text (session r ps matrix log (asked_by (suc k) text place).requests).lines ++ ending text (asked_by (suc k) text place).place
  unfolding plain_by stepped asked_by session lines_text
  line-served r ps k ih (logins_line n next) place matrix log e h = rw e (append-nil (ending text place))
  line-served r ps k ih (folder_line class client next) place matrix log e h = rw e (append-nil (ending text place))
  line-served r ps k ih ill_line place matrix log e h = rw e (append-nil (ending text place))
  line-served r ps k ih (request_line kind login o next) place matrix log e h =
      let x : Outcome = outcome r ps matrix (session.request kind login o) log in
      let on = ahead (request_line kind login o next) place e in
      let rest = ih next x.matrix x.log (omega (arith, on.0)) in
      rw e (ap (λ more. line_text (answer_line log x) ++ more) rest ∙ sym (append_assoc (line_text (answer_line log x)) _ _))

  steps-served : (r : Register) (ps : List ℕ) (k : ℕ) → Served r ps k
  unfolding asked_by session lines_text
  steps-served r ps zero place matrix log h = end-served r ps (line_at text place) place matrix log refl (omega arith)
  steps-served r ps (suc k) place matrix log h = line-served r ps k (steps-served r ps k) (line_at text place) place matrix log refl h

  -- ---- the opening

  -- A register that is accepted has no more logins than 128.
  accepted-sizes : (r : Register) → eqb (register_answer r).number 0 ≡ true → r.logins ≤ 128
  accepted-sizes r e =
      let g = in_range-ranged r (in-range r (eqb-true (register_answer r).number 0 e)) in
      g.logins-few

  checked-whole : (b : Bool) (p : ℕ) (cs ds : List ℕ) (place : ℕ) → eqb (register_answer (register_of p cs ds)).number 0 ≡ b →
      length (opened_with (register_of p cs ds) place).text ≤ 4096 →
      run_of text (opened_with (register_of p cs ds) place) ≡ checked_then (register_of p cs ds) (served (register_of p cs ds) text place)
  unfolding opened_with checked_then served asked_at
  checked-whole true p cs ds place e h =
      let sizes = accepted-sizes (register_of p cs ds) e in
      rw (e, own-take p 128 sizes)
      (steps-plain (suc (length text)) (register_of p cs ds) (own_numbers p) place (replicate (p * length cs) 0) new_log (omega arith)
      ∙ steps-served (register_of p cs ds) (own_numbers p) (length text) place (replicate (p * length cs) 0) new_log (omega arith))
  checked-whole false p cs ds place e h = rw e refl

  filed-whole : (b : Bool) (p : ℕ) (f : Filed) → (is_request (line_at text f.place) || leb (length text) f.place) ≡ b
      → length (opened_on p text f).text ≤ 4096 → run_of text (opened_on p text f) ≡ filed_then p text f
  unfolding opened_on filed_then
  filed-whole true p f e h =
      rw e (checked-whole (eqb (register_answer (register_filed p f)).number 0) p f.classes f.clients f.place refl (rw e at h))
  filed-whole false p f e h = rw e refl

  first-whole : (line : Line) → length (first_on line text).text ≤ 4096 → run_of text (first_on line text) ≡ first_then line text
  first-whole (logins_line p next) h =
      let f = filed_at text next in filed-whole (is_request (line_at text f.place) || leb (length text) f.place) p f refl h
  first-whole (folder_line class client next) h = refl
  first-whole (request_line kind login o next) h = refl
  first-whole ill_line h = refl

output-whole : (text : List ℕ) (b : Bool) → ltb 65536 (length text) ≡ b → length (opened text).text ≤ 4096 → run text ≡ output text
unfolding run opened output
output-whole text true e h = rw e refl
output-whole text false e h =
    let short : length text < 2 ^ 64 = omega (arith, ltb-false 65536 (length text) e) in
    rw e (first-whole text (λ r ps place matrix log. step_fits text r ps place matrix log short) (line_at text 0) (rw e at h))

pub joined : Joined
joined =
    record {
      whole = λ text. output-whole text (ltb 65536 (length text)) refl (opening-fits text);
      opening-fits = opening-fits;
      step_fits = step_fits;
    }
