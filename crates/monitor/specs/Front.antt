-- Internal: the first rows of the table, as the code judges them before the row of the person of the login that asks. No rule of document 01 stands
-- here.
use Rattle.std.specs.Prelude.{ℕ, Result, Ok, Err, ◌*◌, not, ◌&&◌, List, [], ◌∷◌, ◌++◌, eqb, leb}
use Rattle.vocabulary.specs.Answer.{Answer, Check, answer, check, judge}
use Rattle.person_list.specs.PersonList.{bad_persons}
use Rattle.register.specs.Register.{Register, folders, register_checks}
use Rattle.policy.specs.Outcome.{Request}
use Rattle.response.specs.declared.Refusal.{Refusal}
use Rattle.response.specs.Response.{refusal_answer}

-- Rows 4 to 7 of the table, with 10 after 5, of P, F, the person list and the matrix's length.
unfoldable pub front_checks : (p f : ℕ) (persons : List ℕ) (size : ℕ) → Request → List Check
front_checks p f persons size q =
    check (not (eqb size (p * f))) 4 []
    ∷ check (leb p q.login) 5 []
    ∷ check (bad_persons p persons) 10 []
    ∷ check (leb f q.folder) 6 []
    ∷ check (not (leb 1 q.kind && leb q.kind 4)) 7 []
    ∷ []

-- Where every row so far is passed: a grant, with nothing taken back yet.
abbrev pub passed : Answer
passed = answer 0 (0 ∷ [])

-- What the code hands back of them.
abbrev pub front_answer : Result (Unit {0}) Refusal → Answer
front_answer (Ok done) = passed
front_answer (Err refusal) = refusal_answer refusal

-- What rows 4 to 7, with 10 after 5, say.
unfoldable pub four_to_seven : (p f : ℕ) (persons : List ℕ) (size : ℕ) → Request → Answer
four_to_seven p f persons size q = judge (front_checks p f persons size q) passed

-- What rows 1 to 7, with 11 after 3 and 10 after 5, say.
unfoldable pub one_to_seven : Register → (persons : List ℕ) (size : ℕ) → Request → Answer
one_to_seven r persons size q = judge (register_checks r ++ front_checks r.logins (folders r) persons size q) passed
