-- What the register's first row tells: where it passes, and what is answered where it does not.
use Prim.Native.Nat.{◌≤◌}
use mathlib.Core.Path.{◌≡◌}
use mathlib.Core.Bool.{true, false, ◌&&◌}
use mathlib.Core.List.{[]}
use lib.Dec.{leb, eqb}
use lib.ListN.{length}
use borrow.Author.Tests.{leb-true, eqb-true}
use Rattle.vocabulary.specs.Answer.{answer, judge}
use Rattle.vocabulary.proofs.Bools.{both}
use Rattle.register.specs.Register.{Register, folders, in_range, register_checks, register_answer}

-- What it tells that P and F are within their ranges and the lists of one length.
pub record Ranged (r : Register) : Type 0 where
  pub logins-few : r.logins ≤ 128
  pub folders-few : folders r ≤ 512
  pub folders-alike : folders r ≡ length r.clients

pub in_range-ranged : (r : Register) → in_range r ≡ true → Ranged r
in_range-ranged r e =
    let alike = both (leb 1 r.logins && leb r.logins 128 && leb 1 (folders r) && leb (folders r) 512) (eqb (folders r) (length r.clients)) e in
    let few = both (leb 1 r.logins && leb r.logins 128 && leb 1 (folders r)) (leb (folders r) 512) alike.0 in
    let some = both (leb 1 r.logins && leb r.logins 128) (leb 1 (folders r)) few.0 in
    record {
      logins-few = leb-true r.logins 128 (both (leb 1 r.logins) (leb r.logins 128) some.0).1;
      folders-few = leb-true (folders r) 512 few.1;
      folders-alike = eqb-true (folders r) (length r.clients) alike.1;
    }

pub answer-range : (r : Register) → in_range r ≡ false → register_answer r ≡ answer 1 []
unfolding register_answer register_checks judge
answer-range r out = rw out
