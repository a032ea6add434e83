-- The matrix shows just the rights that stand: what its cells tell, at first and after a grant.
use Prim.Native.Nat.{ℕ, ◌+◌, ◌*◌, ◌≤◌, ◌<◌}
use mathlib.Core.Path.{◌≡◌, refl, sym, ap, ◌∙◌}
use mathlib.Core.Bool.{Bool, true, false, and-false, or-false, and-true}
use mathlib.Core.List.{List}
use native.Mathlib.Omega.{arith}
use native.Mathlib.Decide.{dec_lt, ℕ_discrete}
use lib.ListN.{length, get_or, drop, replicate, length-replicate, length-take, get_or-replicate, get_or-eq_default}
use lib.Seq.{get_or-take, get_or-drop}
use lib.Dec.{eqb}
use borrow.Author.Tests.{ne_eqb, lt-ltb}
use Rattle.vocabulary.proofs.Those.{member-those}
use Rattle.vocabulary.proofs.Each.{length-each, get_d-each}
use Rattle.vocabulary.proofs.Bools.{not-both, eqb-self}
use Rattle.register.specs.Register.{Register, folders}
use Rattle.policy.specs.Rules.{row_of, with_row, cell, can_read, can_write, cell_for, lost, cell_after, row_after}
use Rattle.policy.specs.Wall.{Rights, after_grant}
use Rattle.policy.specs.History.{State, blank}
use Rattle.policy.specs.Demand3.{Shows, cell_standing}
use Rattle.policy.proofs.Rows.{length-row_of, length-with_row, row_of-with_row, row_of-with_row-other}

-- A cell tells its two rights.
pub can_read-cell_for : (a b : Bool) → can_read (cell_for a b) ≡ a
can_read-cell_for true true = refl
can_read-cell_for true false = refl
can_read-cell_for false true = refl
can_read-cell_for false false = refl

pub can_write-cell_for : (a b : Bool) → can_write (cell_for a b) ≡ b
can_write-cell_for true true = refl
can_write-cell_for true false = refl
can_write-cell_for false true = refl
can_write-cell_for false false = refl

-- Past the row's end there is no right.
pub cell_out : (r : Register) (m : List ℕ) (s f : ℕ) → folders r ≤ f → cell (row_of r m s) f ≡ 0
cell_out r m s f h = get_or-eq_default (row_of r m s) 0 (rw length-take (omega arith))

-- ---- at first

cell-blank : (r : Register) (n s f : ℕ) → cell (row_of r (replicate n 0) s) f ≡ 0
cell-blank r n s f =
    elim (dec_lt f (folders r)) [
      | yes h ↦ rw (get_or-take {A = ℕ} (folders r) (drop (s * folders r) (replicate n 0)) f 0 h, get_or-drop) (zeros (s * folders r + f))
      | no h ↦ cell_out r (replicate n 0) s f (omega arith)
    ]
  where
    zeros : (i : ℕ) → get_or {A = ℕ} (replicate n 0) i 0 ≡ 0
    zeros i =
        elim (dec_lt i n) [
          | yes h ↦ get_or-replicate n i 0 0 h
          | no h ↦ get_or-eq_default (replicate n 0) 0 (rw length-replicate (omega arith))
        ]

pub blank-shown : (r : Register) → Shows r (blank r)
blank-shown r =
    record {
      whole = length-replicate (r.logins * folders r) 0;
      cells = λ s f. cell-blank r (r.logins * folders r) s f;
    }

-- ---- what the matrix shows

module _ (r : Register) (σ : State) (shown : Shows r σ) where
  pub shown_read : (s f : ℕ) → can_read (cell (row_of r σ.matrix s) f) ≡ σ.rights.read s f
  shown_read s f = rw (shown.cells s f) (can_read-cell_for (σ.rights.read s f) (σ.rights.write s f))

  pub shown-write : (s f : ℕ) → can_write (cell (row_of r σ.matrix s) f) ≡ σ.rights.write s f
  shown-write s f = rw (shown.cells s f) (can_write-cell_for (σ.rights.read s f) (σ.rights.write s f))

  -- A right stands only on a folder of the register.
  pub read_known : (s f : ℕ) → σ.rights.read s f ≡ true → f < folders r
  read_known s f e =
      elim (dec_lt f (folders r)) [
        | yes h ↦ h
        | no h ↦ not-both e (sym (shown_read s f) ∙ ap can_read (cell_out r σ.matrix s f (omega arith)))
      ]

  pub write_known : (s f : ℕ) → σ.rights.write s f ≡ true → f < folders r
  write_known s f e =
      elim (dec_lt f (folders r)) [
        | yes h ↦ h
        | no h ↦ not-both e (sym (shown-write s f) ∙ ap can_write (cell_out r σ.matrix s f (omega arith)))
      ]

  -- ---- after a grant to s for o

  module _ (s o kind : ℕ) (known : s < r.logins) (here : o < folders r) where
    abbrev row : List ℕ
    row = row_of r σ.matrix s

    abbrev after : Rights
    after = after_grant σ.rights s o kind (lost r row o kind)

    cell-inside : (f : ℕ) → f < folders r → cell_after r row o kind f (cell row f) ≡ cell_standing after s f
    unfolding lost
    cell-inside f h = rw (eqb-self s, member-those, lt-ltb f (folders r) h, shown_read s f, shown-write s f)

    cell-outside : (f : ℕ) → folders r ≤ f → 0 ≡ cell_standing after s f
    cell-outside f h =
        rw (← shown_read s f, ← shown-write s f, cell_out r σ.matrix s f h, ne_eqb f o (omega arith), and-false (eqb s s))

    -- Another person's rights stay.
    cell_other : (t f : ℕ) → (t ≡ s → ⊥) → cell_standing σ.rights t f ≡ cell_standing after t f
    cell_other t f d = rw (ne_eqb t s d, or-false (σ.rights.read t f), or-false, and-true)

    length-after : length (row_after r row o kind) ≡ folders r
    unfolding row_after
    length-after = length-each _ row ∙ length-row_of r σ.matrix shown.whole s known

    cell-after : (f : ℕ) → cell (row_after r row o kind) f ≡ cell_standing after s f
    unfolding row_after
    cell-after f =
        elim (dec_lt f (folders r)) [
          | yes h ↦ get_d-each (cell_after r row o kind) row f 0 (rw (length-row_of r σ.matrix shown.whole s known) h) ∙ cell-inside f h
          | no h ↦ get_or-eq_default (row_after r row o kind) 0 (rw length-after (omega arith)) ∙ cell-outside f (omega arith)
        ]

    -- After a grant the matrix shows the rights that then stand.
    pub grant-length : length (with_row r σ.matrix s (row_after r row o kind)) ≡ r.logins * folders r
    grant-length = length-with_row r σ.matrix shown.whole s known (row_after r row o kind) length-after ∙ shown.whole

    pub grant-cells : (t f : ℕ) → cell (row_of r (with_row r σ.matrix s (row_after r row o kind)) t) f ≡ cell_standing after t f
    grant-cells t f =
        elim (ℕ_discrete t s) [
          | yes e ↦ rw (e, row_of-with_row r σ.matrix shown.whole s known (row_after r row o kind) length-after) (cell-after f)
          | no d ↦
              ap (λ (l : List ℕ). cell l f) (row_of-with_row-other r σ.matrix shown.whole s known (row_after r row o kind) length-after t d)
              ∙ (shown.cells t f ∙ cell_other t f d)
        ]
