-- The line at a place, by the letter there.
use Rattle.std.proofs.Common.{ℕ, ◌+◌, ◌≡◌, ◌≢◌, refl, sym, Bool, true, false, Some, None, ltb, List, ne_eqb, add-one}
use Rattle.std.specs.Bool.{then_some}
use Rattle.std.proofs.lemmas.Option.{none-some, cond_some}
use Rattle.numerals.specs.Numbers.{byte_at}
use Rattle.desk_lines.specs.Lines.{logins_line, folder_line, request_line, ill_line, kind_of, single_at, pair_at, or_ill, line_at}

-- What a test kept, or did not, says how it went.
one-asked : (t : Bool) (k kind : ℕ) → then_some t k ≡ Some kind → (t ≡ true) × (k ≡ kind)
one-asked true k kind e = cond_some true k kind e
one-asked false k kind e = absurd (none-some kind e)

none-asked : (t : Bool) (k : ℕ) → then_some t k ≡ None → t ≡ false
none-asked true k e = absurd (none-some k (sym e))
none-asked false k e = refl

module _ (text : List ℕ) (place : ℕ) where
  pub line-logins : byte_at text place ≡ 80 → line_at text place ≡ or_ill (single_at text (place + 1) logins_line)
  unfolding line_at
  line-logins e = rw (e, add-one) refl

  pub line-folder : byte_at text place ≡ 70 → line_at text place ≡ or_ill (pair_at text (place + 1) folder_line)
  unfolding line_at
  line-folder e = rw (e, add-one) refl

  module _ (logins : byte_at text place ≢ 80) (folder : byte_at text place ≢ 70) where
    pub line-none : then_some (ltb 0 (kind_of (byte_at text place))) (kind_of (byte_at text place)) ≡ None → line_at text place ≡ ill_line
    unfolding line_at
    line-none e = rw (ne_eqb _ _ logins, ne_eqb _ _ folder, none-asked (ltb 0 (kind_of (byte_at text place))) (kind_of (byte_at text place)) e) refl

    pub line-request : (kind : ℕ) → then_some (ltb 0 (kind_of (byte_at text place))) (kind_of (byte_at text place)) ≡ Some kind
        → line_at text place ≡ or_ill (pair_at text (place + 1) (request_line kind))
    unfolding line_at
    line-request kind e =
        let asked = one-asked (ltb 0 (kind_of (byte_at text place))) (kind_of (byte_at text place)) kind e in
        rw (ne_eqb _ _ logins, ne_eqb _ _ folder, asked.0, asked.1, add-one) refl
