-- The decision on a request, on a row alone (document 01, 'Where each refusal is checked', rows 8 to 22). Row, lists, folder and kind may be any.
-- A row of over 512 folders gets 1 before its cells are looked at; lists of another length get 1, pairs that do not fit 11 (document 02, C-12), and a
-- folder that is not in the row 6, only after rows 8 and 9, as `row` says. Row 7 is not judged here: a kind other than 1 to 4 asks for nothing.
use Rattle.std.specs.Prelude.{ℕ, List, [], ◌∷◌, ltb, length}
use Rattle.vocabulary.specs.Answer.{Answer, Check, check, judge}
use Rattle.vocabulary.specs.Those.{some, smallest}
use Rattle.cells.specs.Above.{aboves}
use Rattle.register.specs.Register.{Register}
use Rattle.policy.specs.Outcome.{Request}
use Rattle.row.specs.Row.{row_answer}

-- Row 1 as far as it concerns the row, and rows 8 and 9, of the row, the log's length and its end.
unfoldable pub row_checks : List ℕ → (size end : ℕ) → List Check
row_checks row size end =
    check (ltb 512 (length row)) 1 []
    ∷ check (some (aboves row)) 8 (smallest (aboves row) ∷ [])
    ∷ check (ltb size end) 9 []
    ∷ []

-- The decision on a row: what rows 1, 11 and 6, as far as they concern the row, and rows 8, 9 and 20 to 22 say; 30 is judged with the record.
unfoldable pub served_answer : Register → List ℕ → Request → (size end : ℕ) → Answer
served_answer r row q size end = judge (row_checks row size end) (row_answer r row q.folder q.kind)
