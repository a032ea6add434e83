-- Whether the lists of labels and a folder fit a row: rows 1 and 6 of the table, on a row alone (document 01, 'Where each refusal is checked'); and a
-- folder's label.
use Rattle.std.specs.Prelude.{ℕ, Bool, ◌&&◌, List, length, get_or, eqb, leb, ltb}
use Rattle.ids.specs.declared.Label.{Label}
use Rattle.ids.specs.Label.{label_of}
use Rattle.register.specs.Register.{Register, folders}

-- The two lists are of the row's length, and no row has over 512 folders; else refusal 1.
unfoldable pub lists_fit : Register → List ℕ → Bool
lists_fit r row = eqb (folders r) (length row) && eqb (length r.clients) (length row) && leb (length row) 512

-- The lists fit and folder o is in the row.
unfoldable pub fitting : Register → List ℕ → ℕ → Bool
fitting r row o = lists_fit r row && ltb o (length row)

-- The label of the folder at a place of the two lists; 0 stands for a class or a client that its list does not have.
abbrev pub label_at : List ℕ → List ℕ → ℕ → Label
label_at classes clients f = label_of (get_or classes f 0) (get_or clients f 0)
