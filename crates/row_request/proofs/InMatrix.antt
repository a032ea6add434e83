-- What a request leaves on a row, put in the row's place in the matrix.
use Prim.Native.Nat.{ℕ, ◌-◌}
use mathlib.Core.Path.{◌≡◌, refl, sym, ap, ◌∙◌}
use mathlib.Core.Bool.{Bool, true, false}
use mathlib.Core.List.{List}
use lib.ListN.{length}
use lib.Dec.{ltb}
use Rattle.vocabulary.specs.Answer.{Answer}
use Rattle.vocabulary.specs.Place.{row_at, with_row_at}
use Rattle.vocabulary.proofs.Place.{with_row_at-row_at}
use Rattle.log_bytes.specs.Record.{record_bytes}
use Rattle.register.specs.Register.{Register, register_of, folders}
use Rattle.policy.specs.Outcome.{Request, Log, Outcome, is_logged, record_of, unchanged, logged, told}
use Rattle.std.specs.Prelude.{Result, Ok}
use Rattle.response.specs.declared.Refusal.{Refusal}
use Rattle.response.specs.Response.{response_answer, wall_refusal_answer}
use Rattle.row.specs.Row.{ruled}
use Rattle.response.specs.declared.WallRefusal.{WallRefusal}
use Rattle.log_writer.specs.Logged.{logged_outcome}
use Rattle.row_decision.specs.Decision.{served_answer}
use Rattle.row_request.specs.Served.{served_at}
use Rattle.row_request.proofs.Served.{served-granted, served-barred, served-refused}
use Rattle.row_request.specs.Cut.{grant_leaves, grant_on, granted_outcome, granted_at}

module _ (matrix : List ℕ) (start n : ℕ) where
  -- An outcome on the row, in the matrix.
  abbrev in_matrix : Outcome → Outcome
  in_matrix x =
      record {
        answer = x.answer;
        matrix = with_row_at matrix start n x.matrix;
        log = x.log;
      }

  unchanged-in : (a : Answer) (log : Log) → unchanged a matrix log ≡ in_matrix (unchanged a (row_at matrix start n) log)
  unchanged-in a log = ap (λ (m : List ℕ). unchanged a m log) (sym (with_row_at-row_at matrix start n))

  -- A decision that is logged.
  logged-in : (q : Request) (log : Log) (a : Answer) (after : List ℕ) →
      told (logged q log a matrix (with_row_at matrix start n after)) ≡ in_matrix (told (logged q log a (row_at matrix start n) after))
  unfolding logged
  logged-in q log a after = by (ltb (length log.bytes - log.end) (length (record_bytes (record_of q log.serial a)))) refl
    where
      by : (b : Bool) → ltb (length log.bytes - log.end) (length (record_bytes (record_of q log.serial a))) ≡ b →
          told (logged q log a matrix (with_row_at matrix start n after)) ≡ in_matrix (told (logged q log a (row_at matrix start n) after))
      by true e = rw (e, with_row_at-row_at)
      by false e = rw e

  refusal-in : (q : Request) (log : Log) (a : Answer) → logged_outcome matrix q log a ≡ in_matrix (logged_outcome (row_at matrix start n) q log a)
  unfolding logged_outcome
  refusal-in q log a =
      ap (λ (m : List ℕ). told (logged q log a matrix m)) (sym (with_row_at-row_at matrix start n)) ∙ logged-in q log a (row_at matrix start n)

-- What each decision leaves, as `Served.antt` has it of the row alone.
module _ (r : Register) (matrix : List ℕ) (start : ℕ) (q : Request) (log : Log) where
  abbrev decided : Answer
  decided = served_answer r (row_at matrix start (folders r)) q (length log.bytes) log.end

  pub granted-at : (n : ℕ) → response_answer (Ok n) ≡ ruled decided → granted_at (register_of 0 r.classes r.clients) matrix start q log ≡ served_at r matrix start q log
  unfolding served_at grant_leaves granted_outcome
  granted-at n d =
      logged-in matrix start (folders r) q log (grant_on (register_of 0 r.classes r.clients) (row_at matrix start (folders r)) q) _
      ∙ ap (in_matrix matrix start (folders r)) (served-granted r (row_at matrix start (folders r)) q log n d)

  pub barred-at : (w : WallRefusal) → wall_refusal_answer w ≡ ruled decided → logged_outcome matrix q log (wall_refusal_answer w) ≡ served_at r matrix start q log
  unfolding served_at
  barred-at w d =
      refusal-in matrix start (folders r) q log (wall_refusal_answer w)
      ∙ ap (in_matrix matrix start (folders r)) (served-barred r (row_at matrix start (folders r)) q log w d)

  pub refused-at : (p : Result ℕ Refusal) → is_logged (response_answer p) ≡ false → response_answer p ≡ ruled decided → unchanged (response_answer p) matrix log ≡ served_at r matrix start q log
  unfolding served_at
  refused-at p u d =
      unchanged-in matrix start (folders r) (response_answer p) log
      ∙ ap (in_matrix matrix start (folders r)) (served-refused r (row_at matrix start (folders r)) q log p u d)
