-- `list_opponents` meets its contract: where a pair names the client, its other client is listed, and there is room for it.
use Rattle.std.proofs.Common.{◌≤◌, ◌<◌, ◌≡◌, length, length-set, refl, sym, ◌∙◌, arith, rules}
use Rattle.vocabulary.specs.Those.{those}
use Rattle.row_pairs.specs.Opponents.{opponents}
use Rattle.row_pairs.proofs.Opponents.{opponents-skip, opponents-store, opponents-room}
use Rattle.row_pairs.proofs.listing.list_opponents.Goals as goal
use Rattle.row_pairs.proofs.listing.list_opponents.Goals.{then-names, else-names}

pub loop-i-init : goal.loop-i-init
unfolding opponents those
loop-i-init c = let long : length c.args.room.now ≡ 32 = search rules in (omega arith, long, refl)

pub bounds-room-n : goal.bounds-room-n
bounds-room-n c =
    let i = c.loop-i.invariant in
    let fit : c.loop-i.n ≤ length c.loop-i.room = omega (arith, i.0, i.1) in
    rw i.1 at (opponents-room _ _ _ _ _ _ fit i.2 c.loop-i-test.true (sym c.names.ensures ∙ c.if-names.true) (omega (arith, c.requires, i.1)))

pub loop-i-preserved : goal.loop-i-preserved
loop-i-preserved c =
    let l = c.loop-i in
    let i = l.invariant in
    let fit : l.n ≤ length l.room = omega (arith, i.0, i.1) in
    elim c.if-names.branch [
      | then-names w ↦
          let named = sym c.names.ensures ∙ w.if-names.true in
          let free : l.n < length l.room = opponents-room _ _ _ _ _ _ fit i.2 c.loop-i-test.true named (omega (arith, c.requires, i.1)) in
          rw (w.room-is, w.n-is) (omega (arith, free, i.1), simp length-set i.1, rw w.other.ensures (opponents-store _ _ _ _ _ _ free i.2 named))
      | else-names w ↦
          rw (w.room-is, w.n-is) (i.0, i.1, i.2 ∙ sym (opponents-skip _ _ _ _ (sym c.names.ensures ∙ w.if-names.false)))
    ]
