-- Laws of the set of marked clients: nobody is in it at first, and one client is put into it.
use Prim.Native.Nat.{ℕ, zero, suc, ◌*◌, ◌/◌, ◌%◌, ◌^◌, ◌<◌}
use mathlib.Core.Path.{◌≡◌, refl, sym, ap}
use mathlib.Core.Bool.{Bool, false, ◌||◌, ◌&&◌, and-false, or-false}
use mathlib.Core.List.{List}
use native.Mathlib.Omega.{arith}
use native.Mathlib.Decide.{ℕ_discrete}
use lib.Bits.{bit_or}
use lib.Dec.{eqb}
use lib.ListN.{length, get_or, set, replicate}
use lib.Seq.{get_or-set_same, get_or-set_other}
use mir.Val.{bool_byte}
use borrow.Author.Tests.{eq-eqb, ne_eqb}
use Rattle.vocabulary.proofs.Bools.{bool_byte-most, bool_byte-tells}
use Rattle.row_marks.specs.declared.client_set.ClientSet.{ClientSet}
use Rattle.row_marks.specs.Marks.{marked}
use Rattle.row_marks.proofs.Words.{has_bit-zero, has_bit-or, has_bit-moved}

-- A list of one thing throughout has it at every place.
pub replicate-all : {A : Type 0} (m k : ℕ) (a : A) → get_or (replicate m a) k a ≡ a
replicate-all zero k a = refl
replicate-all (suc m) zero a = refl
replicate-all (suc m) (suc k) a = replicate-all m k a

-- Within a word, the bits tell the clients apart.
in-word : (o x : ℕ) → o / 64 ≡ x / 64 → eqb (o % 64) (x % 64) ≡ eqb o x
in-word o x e =
    elim (ℕ_discrete o x) [
      | yes i ↦ rw (eq-eqb o x i, eq-eqb (o % 64) (x % 64) (ap (λ (k : ℕ). k % 64) i))
      | no d ↦ rw (ne_eqb o x d, ne_eqb (o % 64) (x % 64) (λ j. d (omega arith)))
    ]

abbrev pub set_of : List ℕ → ClientSet
set_of words = record { words = words }

-- Nobody is in the set yet.
pub marked-none : (x : ℕ) → marked (set_of (replicate 1024 0)) x ≡ false
marked-none x = rw (replicate-all {A = ℕ} 1024 (x / 64) 0) (has_bit-zero (x % 64))

-- A client is put into its word, if it is wanted.
module _ (bits : List ℕ) (o : ℕ) (wanted : Bool) (room : o / 64 < length bits) where
  abbrev word : ℕ
  word = bit_or (get_or bits (o / 64) 0) (bool_byte wanted * 2 ^ (o % 64) % 2 ^ 64)

  abbrev after : ClientSet
  after = set_of (set bits (o / 64) word)

  own-word : (x : ℕ) → x / 64 ≡ o / 64 → marked after x ≡ (marked (set_of bits) x || wanted && eqb o x)
  own-word x e =
      rw (e, get_or-set_same bits (o / 64) word 0 (omega arith), has_bit-or)
      (rw (has_bit-moved (bool_byte wanted) (o % 64) (x % 64) (bool_byte-most wanted) (omega arith), bool_byte-tells, in-word o x (sym e)))

  other_word : (x : ℕ) → (x / 64 ≡ o / 64 → ⊥) → marked after x ≡ (marked (set_of bits) x || wanted && eqb o x)
  other_word x d =
      rw (get_or-set_other bits (o / 64) (x / 64) word 0 d, ne_eqb o x (λ e. d (rw e refl)), and-false, or-false)

  pub put_one : (x : ℕ) → marked after x ≡ (marked (set_of bits) x || wanted && eqb o x)
  put_one x = elim (ℕ_discrete (x / 64) (o / 64)) [ yes e ↦ own-word x e | no d ↦ other_word x d ]
