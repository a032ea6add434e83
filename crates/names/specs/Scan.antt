-- A text passed over byte by byte (internal: what the rules' lines come to for a walk).
use Rattle.std.specs.Prelude.{ℕ, zero, suc, ◌+◌, ◌-◌, min, cond, List, [], ◌∷◌, eqb, drop, get_or, take}
use Rattle.names.specs.Part.{Part}

-- One number for a byte 10, which ends a line, and another for any other byte.
unfoldable pub by_break : ℕ → ℕ → ℕ → ℕ
by_break b ends other = cond (eqb b 10) ends other

-- How many bytes there are up to the n-th byte 10 and with it, or in all.
unfoldable pub past : List ℕ → ℕ → ℕ
past [] n = 0
past (b ∷ text) zero = 0
past (b ∷ text) (suc n) = suc (past text (suc n - by_break b 1 0))

-- How many bytes there are before the first byte 10, or in all.
unfoldable pub before_break : List ℕ → ℕ
before_break [] = 0
before_break (b ∷ text) = cond (eqb b 10) 0 (suc (before_break text))

-- The least place of a byte 10 among the first n bytes, for n up to 255; or 255.
unfoldable pub least : List ℕ → ℕ → ℕ
least text zero = 255
least text (suc n) = min (least text n) (by_break (get_or text n 0) n 255)

-- From a place of a text on: the place behind the n-th byte 10, and the place of the first; or the text's end.
abbrev pub past_from : List ℕ → ℕ → ℕ → ℕ
past_from text at n = at + past (drop at text) n

abbrev pub end_from : List ℕ → ℕ → ℕ
end_from text at = at + before_break (drop at text)

-- Of bytes in memory, so many from a place on.
abbrev pub cut : Part → ℕ → ℕ → Part
cut text place count =
    record {
      block = text.block;
      start = text.start + place;
      bytes = take count (drop place text.bytes);
    }
