-- What a step leaves: after a request the monitor's reply and its line, otherwise the end of the run.
use Prim.Native.Nat.{ℕ, ◌≤◌}
use mathlib.Core.Path.{◌≡◌, refl, sym, ap}
use mathlib.Core.Bool.{true, false}
use mathlib.Core.List.{List}
use mathlib.Core.Logic.{◌⊎◌, inl, inr}
use lib.Dec.{eqb}
use borrow.Author.Tests.{eqb-true}
use Rattle.vocabulary.specs.Answer.{Answer}
use Rattle.vocabulary.proofs.Bools.{true-or-false}
use Rattle.register.specs.Register.{Register}
use Rattle.policy.specs.Outcome.{Request, Log, Outcome, is_logged, told, told_answer, outcome}
use Rattle.policy.specs.Session.{answer_line}
use Rattle.policy.specs.Session as session
use Rattle.log_writer.specs.declared.Reply.{Reply}
use Rattle.response.specs.Response.{response_answer}
use Rattle.log_writer.specs.Reply.{replied}
use Rattle.text_lines.specs.declared.text.Text.{Text}
use Rattle.text_lines.specs.Text.{text_of}
use Rattle.desk_answers.specs.Recorded.{answer_text}
use Rattle.desk_answers.proofs.Answered.{logged-text}
use Rattle.desk_lines.specs.Lines.{Line, logins_line, folder_line, request_line, ill_line, line_at}
use Rattle.std.proofs.Common.{Some, None}
use Rattle.std.proofs.lemmas.Option.{none-some, cond_some}
use Rattle.ids.specs.declared.Request as ids
use Rattle.desk_core.specs.Output.{line_text}
use Rattle.desk_core.specs.Step.{request_of, over, stepped_on, stepped, left, left_by, tail_of}

-- ---- the line of an answer

-- What the caller is told has the answer's number.
told-number : (a : Answer) → (told_answer a).number ≡ a.number
told-number a = by (true-or-false (eqb a.number 0))
  where
    by : (eqb a.number 0 ≡ true) ⊎ (eqb a.number 0 ≡ false) → (told_answer a).number ≡ a.number
    by (inl e) = rw e (sym (eqb-true a.number 0 e))
    by (inr e) = rw e

-- What is printed of the answer that the caller is told is the request's line.
answer-text : (r : Register) (ps m : List ℕ) (q : Request) (log : Log) → log.serial ≤ 65535 → (a : Answer) → a.number ≡ (told_answer (outcome r ps m q log).answer).number
    → answer_text a (outcome r ps m q log).log.bytes log.end ≡ line_text (answer_line log (outcome r ps m q log))
answer-text r ps m q log serial a e = rw (e, told-number (outcome r ps m q log).answer) (by (true-or-false (is_logged (outcome r ps m q log).answer)))
  where
    by : (is_logged (outcome r ps m q log).answer ≡ true) ⊎ (is_logged (outcome r ps m q log).answer ≡ false)
        → answer_text (outcome r ps m q log).answer (outcome r ps m q log).log.bytes log.end ≡ line_text (answer_line log (outcome r ps m q log))
    by (inl l) = rw l (logged-text r ps m q log serial l)
    by (inr l) = rw l

-- ---- a step

pub a-request : (line : Line) (asked : ids.Request) (next : ℕ) → request_of line ≡ Some (asked, next) → line ≡ request_line asked.kind asked.login.0 asked.folder.0 next
a-request (request_line kind login o after) asked next e = ap (λ (x : ids.Request × ℕ). request_line x.0.kind x.0.login.0 x.0.folder.0 x.1) (cond_some true _ (asked, next) e).1
a-request (logins_line n after) asked next e = absurd (none-some _ e)
a-request (folder_line class client after) asked next e = absurd (none-some _ e)
a-request ill_line asked next e = absurd (none-some _ e)

module _ (text : List ℕ) (r : Register) (ps : List ℕ) (place : ℕ) (matrix : List ℕ) (log : Log) where
  over-on : (line : Line) → request_of line ≡ None → stepped_on line text r ps place matrix log ≡ over text place matrix log
  over-on (logins_line n next) e = refl
  over-on (folder_line class client next) e = refl
  over-on (request_line kind login o next) e = absurd (none-some _ (sym e))
  over-on ill_line e = refl

  pub stepped-over : request_of (line_at text place) ≡ None → stepped text r ps place matrix log ≡ over text place matrix log
  unfolding stepped
  stepped-over e = over-on (line_at text place) e

  module _ (kind login o next : ℕ) (here : line_at text place ≡ request_line kind login o next) (serial : log.serial ≤ 65535) where
    abbrev asked : Request
    asked = session.request kind login o

    -- The reply, the line that is printed of it, and what was lent.
    pub stepped-request : (reply : Reply) (after bytes : List ℕ) (words : Text) → replied reply after bytes ≡ told (outcome r ps matrix asked log)
        → words ≡ text_of (answer_text (response_answer reply.response) bytes log.end)
        → left (record {
          text = words;
          onward = true;
          place = next;
          tail = reply.tail;
        }) after bytes ≡ left_by (stepped text r ps place matrix log)
    unfolding stepped
    stepped-request reply after bytes words e f =
        let line = answer-text r ps matrix asked log serial (response_answer reply.response) (ap (λ (x : Outcome). x.answer.number) e) in
        rw (
          here,
          f,
          ap (λ (x : Outcome). x.log.bytes) e,
          line,
          ap (λ (x : Outcome). x.matrix) e,
          ap (λ (x : Outcome). tail_of x.log) e,
        )
