-- Internal: the clients in conflict with the one asked for, marked in a set. No rule of document 02 stands here.
use Rattle.std.specs.Prelude.{ℕ, ◌/◌, ◌%◌, ◌^◌, ◌≤◌, ◌<◌, ◌≡◌, Bool, true, false, ◌&&◌, List, [], length, get_or, eqb}
use Rattle.register.specs.Register.{Register, register_by}
use Rattle.policy.specs.Conflict.{paired}
use Rattle.register_pairs.specs.Pair.{names_client, other_client, pairs_fit}
use Rattle.row_marks.specs.declared.client_set.ClientSet.{ClientSet}
use Rattle.row_marks.specs.declared.fitting.FewPairs.{FewPairs}
use Rattle.row_marks.specs.declared.marking.Listing.{Listing}

-- A word's bit at a place.
unfoldable pub has_bit : ℕ → ℕ → Bool
has_bit word k = eqb (word / 2 ^ k % 2) 1

-- Client x is in the set.
abbrev pub marked : ClientSet → ℕ → Bool
marked set x = has_bit (get_or set.words (x / 64) 0) (x % 64)

-- The first n pairs are listed: a pair's client beside c, and whether it names c. Past them nothing is wanted.
pub record Listed (pairs : FewPairs) (c : ℕ) (list : Listing) (n : ℕ) : Type 0 where
  pub clients : (i : ℕ) → i < n → get_or list.others i 0 ≡ other_client (get_or pairs.lists.firsts.now i 0) (get_or pairs.lists.seconds.now i 0) c
  pub flags : (i : ℕ) → i < n → get_or list.wanted i false ≡ names_client (get_or pairs.lists.firsts.now i 0) (get_or pairs.lists.seconds.now i 0) c
  pub rest : (i : ℕ) → n ≤ i → get_or list.wanted i false ≡ false

-- The client listed at i is x, and is wanted.
abbrev pub wanted_at : Listing → ℕ → ℕ → Bool
wanted_at list x i = get_or list.wanted i false && eqb (get_or list.others i 0) x

-- Client x is in conflict with c by the pairs.
abbrev pub opponent : FewPairs → ℕ → ℕ → Bool
opponent pairs c x = paired (register_by 0 [] [] true pairs.lists.firsts.now pairs.lists.seconds.now) x c

-- The lists fit the row: what is asked before any walk.
abbrev pub fitted : Register → List ℕ → Bool
fitted r row = eqb (length r.clients) (length row) && pairs_fit r
