-- The claims of document 01, 'The matrix': packing and unpacking, 'each undoing the other on all it accepts'.
use Rattle.std.specs.Prelude.{ℕ, ◌<◌, List, [], ◌≡◌, length, get_or}
use Rattle.vocabulary.specs.Answer.{answer}
use Rattle.packing.specs.CopyOutcome.{copy_outcome, packs}
use Rattle.unpacking.specs.Unpacks.{unpacks}

-- What packing accepts, and writes, is unpacked to the same cells.
abbrev pub UnpackOfPack : Type 0
UnpackOfPack =
    (cells buffer room : List ℕ)
    → (packs cells buffer).told.number ≡ 0
    → length room ≡ length cells
    → unpacks (packs cells buffer).left room ≡ copy_outcome (answer 0 []) cells

-- What unpacking accepts, and writes, is packed to the same bytes.
abbrev pub PackOfUnpack : Type 0
PackOfUnpack =
    (bytes buffer room : List ℕ)
    → ((k : ℕ) → get_or bytes k 0 < 256)
    → (unpacks bytes buffer).told.number ≡ 0
    → length room ≡ length bytes
    → packs (unpacks bytes buffer).left room ≡ copy_outcome (answer 0 []) bytes
