-- A request on a row alone: what is answered and what is lost (document 01, 'The four kinds of request' and 'Where each refusal is checked'; document
-- 02, C-12). A row may be given with any lists and any folder: rows 1, 11 and 6 of the table judge them, 11 by the sizes of the lists of pairs alone.
-- Rows 7 and 8 are not judged here: a kind other than 1 to 4 asks for nothing, and a cell is read by its two rights. An empty row has no folder, so 6
-- speaks, unless 1 or 11 does.
use Rattle.std.specs.Prelude.{ℕ, cond, not, ◌&&◌, List, [], ◌∷◌, length, eqb, leb}
use Rattle.vocabulary.specs.Answer.{Answer, Check, answer, check, judge}
use Rattle.register.specs.Register.{Register}
use Rattle.policy.specs.Rules.{lost}
use Rattle.policy.specs.Outcome.{wall_answer}
use Rattle.row_labels.specs.Fitting.{lists_fit, fitting}
use Rattle.register_pairs.specs.Pair.{pairs_fit}

-- The rows of the table that judge the lists and the folder.
unfoldable pub fit_checks : Register → List ℕ → ℕ → List Check
fit_checks r row o =
    check (not (lists_fit r row)) 1 []
    ∷ check (r.by_pairs && not (pairs_fit r)) 11 []
    ∷ check (leb (length row) o) 6 []
    ∷ []

-- The answer on a row: 1, 11, 6, or what the wall says.
unfoldable pub row_answer : Register → List ℕ → ℕ → ℕ → Answer
row_answer r row o kind = judge (fit_checks r row o) (wall_answer r row o kind)

-- An answer as it is handed on before it is carried out: of a grant nothing is told as taken back yet.
abbrev pub ruled : Answer → Answer
ruled a = cond (eqb a.number 0) (answer 0 (0 ∷ [])) a

-- The folders that lose their write right on a grant; none where lists or folder do not fit the row.
unfoldable pub lost_on : Register → List ℕ → ℕ → ℕ → List ℕ
lost_on r row o kind = cond (fitting r row o) (lost r row o kind) []
