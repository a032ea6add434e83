-- Answers and checks (document 01, 'Where each refusal is checked').
use Rattle.std.specs.Prelude.{ℕ, Bool, cond, List, [], ◌∷◌}

-- An answer: its number in document 01 and the values that it carries, in the order in which the document names them.
pub record Answer : Type 0 where
  pub number : ℕ
  pub carried : List ℕ

abbrev pub answer : ℕ → List ℕ → Answer
answer n vs =
    record {
      number = n;
      carried = vs;
    }

-- A row of a refusal table: when it refuses, and what it then answers.
pub record Check : Type 0 where
  pub fails : Bool
  pub refusal : Answer

abbrev pub check : Bool → ℕ → List ℕ → Check
check b n vs =
    record {
      fails = b;
      refusal = answer n vs;
    }

-- 'Checks run from top to bottom; the first that fails speaks.' Where none fails, the last argument is the answer.
unfoldable pub judge : List Check → Answer → Answer
judge [] otherwise = otherwise
judge (c ∷ cs) otherwise = cond c.fails c.refusal (judge cs otherwise)
