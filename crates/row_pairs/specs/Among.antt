-- Internal: the first readable folder of a listed client, sought by four clients at a time. No rule of document 02 stands here.
use Rattle.std.specs.Prelude.{ℕ, ◌+◌, Bool, ◌&&◌, ◌||◌, List, length, get_or, eqb}
use Rattle.vocabulary.specs.Those.{those, member}
use Rattle.policy.specs.Rules.{cell, can_read}
use Rattle.row_marks.specs.Walk.{cells_of}
use Rattle.row_pairs.specs.declared.groups.Four.{Four}
use Rattle.row_pairs.specs.declared.groups.Search.{Search}

-- Folder f may be read, and its client passes a test.
abbrev pub readable_with : (ℕ → Bool) → List ℕ → List ℕ → ℕ → Bool
readable_with p row clients f = can_read (cell row f) && p (get_or clients f 0)

-- All such folders, and the first of them, or the row's length.
abbrev pub all_with : (ℕ → Bool) → List ℕ → List ℕ → List ℕ
all_with p row clients = those (readable_with p row clients) (length row)

abbrev pub first_with : (ℕ → Bool) → List ℕ → List ℕ → ℕ
first_with p row clients = get_or (all_with p row clients) 0 (length row)

-- The first number below n that passes a test, or n.
abbrev pub first_below : (ℕ → Bool) → ℕ → ℕ
first_below p n = get_or (those p n) 0 n

-- The first readable folder of a listed client, or the row's length.
abbrev pub first_among : List ℕ → List ℕ → List ℕ → ℕ
first_among list row clients = first_with (λ x. member x list) row clients

-- One of four clients.
abbrev pub one_of : Four → ℕ → Bool
one_of g x = eqb x g.0.0 || eqb x g.1.0 || eqb x g.2.0 || eqb x g.3.0

abbrev pub four : ℕ → ℕ → ℕ → ℕ → Four
four a b c d =
    record {
      0 = record { 0 = a };
      1 = record { 0 = b };
      2 = record { 0 = c };
      3 = record { 0 = d };
    }

-- The four listed clients from a place on, the first of them again where there are fewer.
abbrev pub four_from : List ℕ → ℕ → Four
four_from list i = four (get_or list i 0) (get_or list (i + 1) (get_or list i 0)) (get_or list (i + 2) (get_or list i 0)) (get_or list (i + 3) (get_or list i 0))

-- Folder f may be read, and its client is one of the four that are sought.
abbrev pub found : Search → ℕ → Bool
found s f = readable_with (one_of s.four) (cells_of s.row) s.row.clients.now f
