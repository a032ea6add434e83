-- The rules on one cell and two labels (document 01, 'The four kinds of request'), cut as the code is cut. That over a row they are those of `policy`
-- is proved by `row` and `row_grant`.
use Rattle.std.specs.Prelude.{ℕ, Bool, not, ◌&&◌, ◌||◌, eqb}
use Rattle.ids.specs.declared.Label.{Label}
use Rattle.policy.specs.Rules.{can_read, can_write, cell_for, reads, writes, revokes}

-- Whether a folder with this cell and the label f is a rival, foreign or at stake, where the folder asked for has the label o; a rival by classes
-- (by pairs: `Opposed.antt` of `row_marks`).
abbrev pub is_rival : ℕ → Label → Label → Bool
is_rival c f o = can_read c && (eqb f.class.0 o.class.0 && not (eqb f.client.0 o.client.0))

abbrev pub is_foreign : ℕ → Label → Label → Bool
is_foreign c f o = can_read c && not (eqb f.client.0 0) && not (eqb f.client.0 o.client.0)

abbrev pub is_at_stake : ℕ → Label → Label → Bool
is_at_stake c f o = can_write c && not (eqb f.client.0 o.client.0) && not (eqb o.client.0 0)

-- What a grant makes of a cell; `asked` says whether it is that of the folder asked for.
abbrev pub cell_left : ℕ → Label → Label → Bool → ℕ → ℕ
cell_left c f o asked kind =
    cell_for
    (can_read c || (asked && reads kind))
    ((can_write c && not (revokes kind && is_at_stake c f o)) || (asked && writes kind))
