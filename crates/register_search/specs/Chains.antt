-- Internal: the table by which refusal 3 is sought in one pass. No rule of document 01 stands here.
use Rattle.std.specs.Prelude.{ℕ, zero, suc, ◌+◌, ◌≤◌, ◌<◌, ◌/◌, ◌%◌, ◌≡◌, Bool, cond, List, length, get_or, eqb}

-- One more than the last number below n that passes the test, or 0.
unfoldable pub past_last : (ℕ → Bool) → ℕ → ℕ
past_last p zero = 0
past_last p (suc n) = cond (p n) (suc n) (past_last p n)

-- Folder g is of the client c.
abbrev pub of_client : List ℕ → ℕ → ℕ → Bool
of_client clients c g = eqb (get_or clients g 0) c

-- A client's slot in the table.
abbrev pub slot_of : ℕ → ℕ
slot_of c = (c + c / 32) % 2048

-- The slots of the first n folders' clients are listed, in a list of 512 places.
pub record SlotsListed (clients slots : List ℕ) (n : ℕ) : Type 0 where
  pub room : length slots ≡ 512
  pub each-slot : (g : ℕ) → g < n → get_or slots g 0 ≡ slot_of (get_or clients g 0)

-- Folder g's client has the slot s.
abbrev pub in_slot : List ℕ → ℕ → ℕ → Bool
in_slot clients s g = eqb (slot_of (get_or clients g 0)) s

-- The table after the folders below n: for each slot the last folder in it, and for each folder the last one before it in its slot; the rest is 0.
pub record Chained (clients heads nexts : List ℕ) (n : ℕ) : Type 0 where
  pub slots : length heads ≡ 2048
  pub places : length nexts ≡ 512
  pub at_head : (s : ℕ) → s < 2048 → get_or heads s 0 ≡ past_last (in_slot clients s) n
  pub fresh : (g : ℕ) → n ≤ g → get_or nexts g 0 ≡ 0
  pub at_next : (g : ℕ) → g < n → get_or nexts g 0 ≡ past_last (in_slot clients (slot_of (get_or clients g 0))) g
