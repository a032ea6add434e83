-- The matrix and the four kinds of request (document 01, 'The matrix' and 'The four kinds of request'; document 02, C-12, for a rival, and
-- C-14, for a person in a login's place).
use Rattle.std.specs.Prelude.{ℕ, ◌+◌, ◌*◌, ◌%◌, Bool, cond, not, ◌&&◌, ◌||◌, List, ◌++◌, get_or, take, drop, leb, eqb}
use Rattle.vocabulary.specs.Those.{those}
use Rattle.vocabulary.specs.Each.{each}
use Rattle.register.specs.Register.{Register, folders, client_of, sanitised}
use Rattle.policy.specs.Conflict.{in_conflict}

-- ---- the matrix: P times F bytes, 'one row per person, still P rows'

-- The row of person s: its F cells, in folder order.
abbrev pub row_of : Register → List ℕ → ℕ → List ℕ
row_of r matrix s = take (folders r) (drop (s * folders r) matrix)

-- The matrix with another row for person s.
abbrev pub with_row : Register → List ℕ → ℕ → List ℕ → List ℕ
with_row r matrix s row = take (s * folders r) matrix ++ (row ++ drop (folders r) (drop (s * folders r) matrix))

abbrev pub cell : List ℕ → ℕ → ℕ
cell row f = get_or row f 0

-- 'A cell is 0 for no right, 1 for read, 2 for write, 3 for both.'
abbrev pub can_read : ℕ → Bool
can_read c = eqb (c % 2) 1

abbrev pub can_write : ℕ → Bool
can_write c = leb 2 c

abbrev pub cell_for : Bool → Bool → ℕ
cell_for read write = cond read 1 0 + cond write 2 0

-- ---- the four kinds: o is the folder asked for, s the person of the login that asks, row that person's

-- Kinds 1 read, 2 careful read and 4 read and write enter a read right.
abbrev pub reads : ℕ → Bool
reads kind = eqb kind 1 || eqb kind 2 || eqb kind 4

-- Kinds 3 write and 4 read and write enter a write right.
abbrev pub writes : ℕ → Bool
writes kind = eqb kind 3 || eqb kind 4

-- Kinds 1 and 4 remove write rights that are at stake.
abbrev pub revokes : ℕ → Bool
revokes kind = eqb kind 1 || eqb kind 4

-- Rival: a folder that s may read, by classes of o's class and of another client, by pairs 'of a client in conflict with the one asked for'.
abbrev pub rival : Register → List ℕ → ℕ → ℕ → Bool
rival r row o f = can_read (cell row f) && in_conflict r f o

-- Foreign: a folder that s may read, not sanitised, whose client is not o's client.
abbrev pub foreign : Register → List ℕ → ℕ → ℕ → Bool
foreign r row o f =
    can_read (cell row f) && not (sanitised r f) && not (eqb (client_of r f) (client_of r o))

-- At stake: a folder that s may write, whose client is not o's client; there are none if o is sanitised.
abbrev pub at_stake : Register → List ℕ → ℕ → ℕ → Bool
at_stake r row o f =
    can_write (cell row f) && not (eqb (client_of r f) (client_of r o)) && not (sanitised r o)

-- All folders of each of the three sorts.
unfoldable pub rivals : Register → List ℕ → ℕ → List ℕ
rivals r row o = those (rival r row o) (folders r)

unfoldable pub foreigners : Register → List ℕ → ℕ → List ℕ
foreigners r row o = those (foreign r row o) (folders r)

unfoldable pub stakes : Register → List ℕ → ℕ → List ℕ
stakes r row o = those (at_stake r row o) (folders r)

-- The folders that lose their write right on a grant.
unfoldable pub lost : Register → List ℕ → ℕ → ℕ → List ℕ
lost r row o kind = those (λ f. revokes kind && at_stake r row o f) (folders r)

-- What a grant makes of the cell c of folder f: the rights asked for are entered on o; write is removed from every folder at stake
-- where the kind revokes.
abbrev pub cell_after : Register → List ℕ → ℕ → ℕ → ℕ → ℕ → ℕ
cell_after r row o kind f c =
    cell_for
    (can_read c || (eqb f o && reads kind))
    ((can_write c && not (revokes kind && at_stake r row o f)) || (eqb f o && writes kind))

unfoldable pub row_after : Register → List ℕ → ℕ → ℕ → List ℕ
row_after r row o kind = each (cell_after r row o kind) row
