-- 'Nothing copied' (document 02, C-11): the name is a part of a lent text, where it lies.
use Rattle.std.specs.Prelude.{ℕ, ◌+◌, List}
use Rattle.std.specs.Borrow.{Bor}
use Rattle.names.specs.Name.{name_of, name_shown, text_of}
use Rattle.names.specs.declared.Stretch.{Stretch}

-- Bytes in memory: the block of memory that they are in, the place of the first in that block, and the bytes.
pub record Part : Type 0 where
  pub block : ℕ
  pub start : ℕ
  pub bytes : List ℕ

-- A lent slice as such.
abbrev pub part_of : Bor (List ℕ) → Part
part_of slice =
    record {
      block = slice.ref_ptr.0;
      start = slice.ref_ptr.1;
      bytes = slice.now;
    }

-- The name in whichever text it was found in: in that text's block, as many bytes behind the text's start as the stretch says. At 81 no byte, at
-- the start of the client's text.
abbrev pub name_part : Part → Part → ℕ → Part
name_part client house o =
    let found : Stretch = name_shown client.bytes house.bytes o in
    let text : Part = text_of found client house in
    record {
      block = text.block;
      start = text.start + found.place;
      bytes = name_of client.bytes house.bytes o;
    }
