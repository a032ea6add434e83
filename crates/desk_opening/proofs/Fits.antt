-- What the opening prints fits in 4,096 bytes.
use Prim.Native.Nat.{ℕ, ◌≤◌, ◌<◌, ◌^◌}
use native.Mathlib.Omega.{arith}
use mathlib.Core.Path.{◌≡◌}
use mathlib.Core.Logic.{◌⊎◌, inl, inr}
use mathlib.Core.Bool.{true, false, ◌||◌}
use mathlib.Core.List.{List}
use lib.Dec.{eqb, leb, ltb}
use lib.ListN.{length, take, length-take}
use borrow.Author.Tests.{ltb-false}
use Rattle.vocabulary.proofs.Bools.{true-or-false}
use Rattle.register.specs.Register.{Register, register_answer}
use Rattle.desk_lines.specs.Lines.{Line, logins_line, folder_line, request_line, ill_line, line_at}
use Rattle.line_numbers.specs.LineNumber.{line_number}
use Rattle.line_numbers.proofs.Ended.{ended-most}
use Rattle.desk_print.specs.Lines.{bad_line}
use Rattle.desk_print.proofs.Fits.{input-too-long-fits, bad-line-fits, bad-register-fits}
use Rattle.desk_opening.specs.Folders.{Filed, filed_at, register_filed, is_request}
use Rattle.desk_opening.specs.Opened.{opened_with, opened_on, first_on, opened}

-- The line that tells a line's number.
pub line-number-fits : (text : List ℕ) (place : ℕ) → length text < 2 ^ 64 → length (bad_line (line_number text place)) ≤ 4096
line-number-fits text place h =
    bad-line-fits (line_number text place) (omega (arith, ended-most (take place text), length-take place text))

opened-with-fits : (r : Register) (place : ℕ) → length (opened_with r place).text ≤ 4096
unfolding opened_with
opened-with-fits r place = by (true-or-false (eqb (register_answer r).number 0))
  where
    by : (eqb (register_answer r).number 0 ≡ true) ⊎ (eqb (register_answer r).number 0 ≡ false) → length (opened_with r place).text ≤ 4096
    by (inl e) = rw e (omega arith)
    by (inr e) = rw e (bad-register-fits r)

opened-on-fits : (p : ℕ) (text : List ℕ) (f : Filed) → length text < 2 ^ 64 → length (opened_on p text f).text ≤ 4096
unfolding opened_on
opened-on-fits p text f h = by (true-or-false (is_request (line_at text f.place) || leb (length text) f.place))
  where
    by : ((is_request (line_at text f.place) || leb (length text) f.place) ≡ true) ⊎ ((is_request (line_at text f.place) || leb (length text) f.place) ≡ false)
        → length (opened_on p text f).text ≤ 4096
    by (inl e) = rw e (opened-with-fits (register_filed p f) f.place)
    by (inr e) = rw e (line-number-fits text f.place h)

first_fits : (line : Line) (text : List ℕ) → length text < 2 ^ 64 → length (first_on line text).text ≤ 4096
first_fits (logins_line p next) text h = opened-on-fits p text (filed_at text next) h
first_fits (folder_line class client next) text h = bad-line-fits 1 (omega arith)
first_fits (request_line kind login o next) text h = bad-line-fits 1 (omega arith)
first_fits ill_line text h = bad-line-fits 1 (omega arith)

pub opening-fits : (text : List ℕ) → length (opened text).text ≤ 4096
unfolding opened
opening-fits text = by (true-or-false (ltb 65536 (length text)))
  where
    by : (ltb 65536 (length text) ≡ true) ⊎ (ltb 65536 (length text) ≡ false) → length (opened text).text ≤ 4096
    by (inl e) = rw e input-too-long-fits
    by (inr e) = rw e (first_fits (line_at text 0) text (omega (arith, ltb-false 65536 (length text) e)))
