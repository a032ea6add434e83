-- `first_among` meets its contract: the first find of the clients that the loop has passed.
use Rattle.std.proofs.Common.{◌+◌, ◌≤◌, arith, sym, ap, ◌∙◌, length}
use lib.Seq.{take_all}
use Rattle.row_marks.specs.Walk.{cells_of}
use Rattle.row_marks.proofs.Rows.{cells-length}
use Rattle.row_pairs.specs.Among.{first_among}
use Rattle.row_pairs.proofs.Firsts.{first-most, among_none}
use Rattle.row_pairs.proofs.Fours.{among-step}
use Rattle.row_pairs.proofs.groups.first_among.Goals as goal

pub loop-i-init : goal.loop-i-init
loop-i-init c =
    let row = c.args.row in
    sym (cells-length row) ∙ sym (among_none (cells_of row) row.clients.now)

pub find-first-requires : goal.find-first-requires
find-first-requires c =
    let row = c.args.row in
    let l = c.loop-i in
    let most : l.first ≤ length (cells_of row) = rw l.invariant (first-most _ _) in
    omega (arith, most, cells-length row)

pub loop-i-preserved : goal.loop-i-preserved
loop-i-preserved c =
    let row = c.args.row in
    let l = c.loop-i in
    rw (c.find-first.ensures, c.from_place-four.ensures, l.invariant) (among-step c.args.list.now (cells_of row) row.clients.now l.i c.loop-i-test.true)

pub returns : goal.returns
returns c =
    let row = c.args.row in
    c.loop-i.invariant ∙ ap (λ l. first_among l (cells_of row) row.clients.now) (take_all c.loop-i.i c.args.list.now (omega (arith, c.loop-i-test.false)))

pub returns-2 : goal.returns-2
returns-2 c =
    let row = c.args.row in
    let l = c.loop-i in
    let step = among-step c.args.list.now (cells_of row) row.clients.now l.i c.loop-i-test.true in
    rw (c.find-first.ensures, c.from_place-four.ensures, l.invariant) step
    ∙ ap (λ l. first_among l (cells_of row) row.clients.now) (take_all (l.i + 4) c.args.list.now (omega arith))
