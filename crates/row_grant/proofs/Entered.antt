-- The rights asked for, entered in one cell: all that a grant does after the taking back, and all that it does where no write right is lost.
use Prim.Native.Nat.{ℕ, ◌+◌, ◌≤◌, ◌<◌}
use mathlib.Core.Path.{◌≡◌, refl, sym, ◌∙◌}
use mathlib.Core.Bool.{true, false, and-false, or-false, and-true, ◌&&◌}
use mathlib.Core.List.{List, []}
use native.Mathlib.Omega.{arith}
use native.Mathlib.Decide.{ℕ_discrete}
use lib.ListN.{length, get_or, length-set}
use lib.Seq.{ext_get_or, get_or-set_same, get_or-set_other}
use borrow.Author.Tests.{ne_eqb}
use Rattle.vocabulary.specs.Each.{each}
use Rattle.vocabulary.specs.Place.{row_at, with_row_at}
use Rattle.vocabulary.proofs.Bools.{eqb-self}
use Rattle.vocabulary.proofs.Each.{length-each, get_d-each}
use Rattle.vocabulary.proofs.Place.{cell-with_row_at, set-with_row_at, with_row_at-row_at}
use Rattle.vocabulary.proofs.Those.{those-empty}
use Rattle.ids.specs.declared.Label.{Label}
use Rattle.register.specs.Register.{Register, folders}
use Rattle.policy.specs.Rules.{can_read, can_write, cell_for, cell_after, row_after, revokes, at_stake, lost}
use Rattle.policy.proofs.Shown.{can_read-cell_for, can_write-cell_for}
use Rattle.cell_rules.specs.Cut.{cell_left}
use Rattle.row_labels.specs.Fitting.{fitting, label_at}
use Rattle.row_labels.proofs.Fitting.{fits-are, folder-in}
use Rattle.row_grant.specs.Granted.{row_granted, cell_with, cell_entered}
use Rattle.row_grant.specs.Cut.{taken_at}
use Rattle.row_grant.proofs.Granted.{row_granted-fits}

-- ---- one cell

-- A cell with the label asked for is not at stake.
own-asked : (c : ℕ) (o : Label) (kind : ℕ) → cell_left c o o true kind ≡ cell_with c kind
own-asked c o kind = simp (eqb-self, and-false, and-true)

own-taken : (c : ℕ) (o : Label) (kind : ℕ) → cell_left c o o false kind ≡ cell_for (can_read c) (can_write c)
own-taken c o kind = simp (eqb-self, and-false, and-true, or-false)

own-entered : (c : ℕ) (o : Label) (kind : ℕ) → cell_left c o o true kind ≡ cell_with (cell_left c o o false kind) kind
own-entered c o kind = simp (own-asked, own-taken, can_read-cell_for, can_write-cell_for)

-- A cell that is not above 3 shows its two rights and nothing else.
shown-cell : (c : ℕ) → c ≤ 3 → cell_for (can_read c) (can_write c) ≡ c
shown-cell c h = go (ℕ_discrete c 0) (ℕ_discrete c 1) (ℕ_discrete c 2)
  where
    go : Dec (c ≡ 0) → Dec (c ≡ 1) → Dec (c ≡ 2) → cell_for (can_read c) (can_write c) ≡ c
    go (yes e) b d = rw e
    go (no a) (yes e) d = rw e
    go (no a) (no b) (yes e) = rw e
    go (no a) (no b) (no d) = let e : c ≡ 3 = omega arith in rw e

-- ---- a row

-- A row changed cell by cell is another one with the rights asked for at a folder, if it is in each cell.
each-entered : (g : ℕ → ℕ → ℕ) (row before : List ℕ) (o kind : ℕ) → length before ≡ length row → o < length row →
    g o (get_or row o 0) ≡ cell_with (get_or before o 0) kind →
    ((i : ℕ) → i < length row → (i ≡ o → ⊥) → g i (get_or row i 0) ≡ get_or before i 0) → each g row ≡ cell_entered before o kind
each-entered g row before o kind same here asked others =
    ext_get_or 0 (each g row) (cell_entered before o kind) (rw (length-each, length-set) (sym same)) (λ i h. at i (rw length-each at h))
  where
    at : (i : ℕ) → i < length row → get_or (each g row) i 0 ≡ get_or (cell_entered before o kind) i 0
    at i h =
        rw (get_d-each g row i 0 h)
        (elim (ℕ_discrete i o) [
          | yes e ↦ rw e (asked ∙ sym (get_or-set_same before o _ 0 (rw same here)))
          | no d ↦ others i h d ∙ sym (get_or-set_other before o i _ 0 d)
        ])

module _ (r : Register) (m : List ℕ) (start o kind : ℕ) (fit : fitting r (row_at m start (folders r)) o ≡ true) where
  abbrev row : List ℕ
  row = row_at m start (folders r)

  abbrev after : ℕ → ℕ → ℕ
  after = cell_after r row o kind

  abbrev taken : Label → ℕ → ℕ → ℕ
  taken l = taken_at r.classes r.clients l kind

  here : o < length row
  here = folder-in r row o fit

  -- So it is in the matrix.
  entered-row : (g : ℕ → ℕ → ℕ) (before : List ℕ) → length before ≡ length row → g o (get_or row o 0) ≡ cell_with (get_or before o 0) kind →
      ((i : ℕ) → i < length row → (i ≡ o → ⊥) → g i (get_or row i 0) ≡ get_or before i 0) →
      cell_entered (with_row_at m start (folders r) before) (start + o) kind ≡ with_row_at m start (folders r) (each g row)
  entered-row g before same asked others =
      rw (each-entered g row before o kind same here asked others, cell-with_row_at m before start (folders r) same o inside)
      (set-with_row_at m before start (folders r) same o inside _)
    where
      inside : o < length before
      inside = rw same here

  -- Entered after the taking back, they make the row that the rules say.
  pub taken-entered : (l : Label) → l ≡ label_at r.classes r.clients o →
      cell_entered (with_row_at m start (folders r) (each (taken l) row)) (start + o) kind
      ≡ with_row_at m start (folders r) (row_granted r row o kind)
  unfolding row_after
  taken-entered l asked =
      rw (row_granted-fits r row o kind fit) (entered-row after (each (taken l) row) (length-each (taken l) row) at-o others)
    where
      at-o : after o (get_or row o 0) ≡ cell_with (get_or (each (taken l) row) o 0) kind
      at-o = rw (get_d-each (taken l) row o 0 here, asked, eqb-self o) (own-entered (get_or row o 0) (label_at r.classes r.clients o) kind)

      others : (i : ℕ) → i < length row → (i ≡ o → ⊥) → after i (get_or row i 0) ≡ get_or (each (taken l) row) i 0
      others i h d = rw (get_d-each (taken l) row i 0 h, asked, ne_eqb i o d)

  -- Where no write right is lost and no cell is above 3, entering them is the whole grant.
  pub entered_all : ((f : ℕ) → f < length row → get_or row f 0 ≤ 3) → lost r row o kind ≡ [] →
      with_row_at m start (folders r) (row_granted r row o kind) ≡ cell_entered m (start + o) kind
  unfolding row_after lost
  entered_all cells none =
      rw (row_granted-fits r row o kind fit, ← entered-row after row refl at-o others, with_row_at-row_at m start (folders r))
    where
      kept : (f : ℕ) → f < length row → (revokes kind && at_stake r row o f) ≡ false
      kept f h = those-empty _ (folders r) none f (rw (fits-are r row o fit).0.0 h)

      at-o : after o (get_or row o 0) ≡ cell_with (get_or row o 0) kind
      at-o = rw (kept o here, eqb-self o, and-true)

      others : (i : ℕ) → i < length row → (i ≡ o → ⊥) → after i (get_or row i 0) ≡ get_or row i 0
      others i h d = simp (kept i h, ne_eqb i o d, and-true, or-false) (shown-cell (get_or row i 0) (cells i h))
