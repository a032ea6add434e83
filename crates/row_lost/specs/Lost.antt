-- The write rights that a grant on a row takes back, listed in a lent array (document 01, 'The four kinds of request'). A row may be given with any lists
-- and any folder. Rows 7 and 8 are not judged here: a kind other than 1 to 4 takes back nothing, and a cell is read by its two rights.
use Rattle.std.specs.Prelude.{ℕ, cond, List, [], length, set, leb}
use Rattle.std.proofs.lemmas.List.Edits.{sets}
use Rattle.register.specs.Register.{Register}
use Rattle.row.specs.Row.{lost_on}

-- Folders listed in a lent array: how many, and the array, with the folders from its start and a 0 after them, the rest as it was.
pub record Listed : Type 0 where
  pub count : ℕ
  pub list : List ℕ

abbrev pub listed_at_start : List ℕ → List ℕ → Listed
listed_at_start array l =
    record {
      count = length l;
      list = set (sets array 0 l) (length l) 0;
    }

-- The folders lost, listed in a lent array; none where it has fewer places than the row.
unfoldable pub lost_listed : List ℕ → Register → List ℕ → ℕ → ℕ → Listed
lost_listed array r row o kind = listed_at_start array (cond (leb (length row) (length array)) (lost_on r row o kind) [])
