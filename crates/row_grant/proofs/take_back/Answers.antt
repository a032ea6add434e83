-- `take_back` meets its contract. The invariant: what the walk has passed of the row is changed, the rest of the matrix is as it was.
use Rattle.std.proofs.Common.{ℕ, List, length, get_or, set, arith, refl, sym, ◌∙◌, ◌≡◌, ◌+◌, ◌<◌}
use lib.ListN.{length-set}
use Rattle.vocabulary.specs.Place.{row_at, with_row_at, Placed}
use Rattle.vocabulary.proofs.Place.{placed-start, placed-next, placed-within, with_row_at-row_at, cell-with_row_at, set-with_row_at}
use Rattle.vocabulary.proofs.Each.{up_to, up_to-next, up_to-all, length-up_to}
use Rattle.row_grant.specs.Cut.{taken_at}
use Rattle.row_grant.proofs.take_back.Goals as goal

-- One folder more.
next : (g : ℕ → ℕ → ℕ) (m₀ m : List ℕ) (start n f place : ℕ) → Placed n start f place → f < length (row_at m₀ start n) →
    m ≡ with_row_at m₀ start n (up_to g f (row_at m₀ start n)) → set m place (g f (get_or m place 0)) ≡ with_row_at m₀ start n (up_to g (f + 1) (row_at m₀ start n))
next g m₀ m start n f place p h e =
    rw (e, p.0, cell-with_row_at m₀ part start n whole f inside, set-with_row_at m₀ part start n whole f inside, up_to-next g f (row_at m₀ start n) h)
  where
    part : List ℕ
    part = up_to g f (row_at m₀ start n)

    whole : length part ≡ length (row_at m₀ start n)
    whole = length-up_to g f (row_at m₀ start n)

    inside : f < length part
    inside = rw whole h

pub loop-f-init : goal.loop-f-init
unfolding up_to
loop-f-init c =
    let a = c.args in
    (placed-start _ _, refl, sym (with_row_at-row_at a.matrix.now a.start (length a.labels.classes.now)))

pub bounds-matrix-place : goal.bounds-matrix-place
bounds-matrix-place c =
    rw c.loop-f.invariant.1 (placed-within _ _ _ _ _ _ (sym c.requires.0) c.loop-f.invariant.0 c.loop-f-test.true)

pub loop-f-preserved : goal.loop-f-preserved
loop-f-preserved c =
    let a = c.args in
    let i = c.loop-f.invariant in
    (placed-next _ _ _ _ i.0, rw length-set i.1, rw (c.cell_left.ensures, c.new-label.ensures) (next (taken_at a.labels.classes.now a.labels.clients.now a.o a.kind) _ _ _ _ _ _ i.0 (rw (← c.requires.0) c.loop-f-test.true) i.2))

pub returns : goal.returns
returns c =
    let a = c.args in
    let e : c.loop-f.f ≡ length (row_at a.matrix.now a.start (length a.labels.classes.now)) = omega arith in
    c.loop-f.invariant.2 ∙ rw (e, up_to-all)
