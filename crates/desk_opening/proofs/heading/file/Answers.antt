-- `file` meets its contract: what is stored, with the folders that are left at the loop's place, are the folders of the whole.
use Rattle.std.proofs.Common.{arith, ◌∙◌, refl, sym, replicate}
use Rattle.desk_lines.specs.Lines.{line_at}
use Rattle.desk_lines.proofs.Onward.{line-ahead}
use Rattle.desk_opening.specs.Folders.{filed_at}
use Rattle.desk_opening.proofs.Arms.{a-folder, no-folder}
use Rattle.desk_opening.proofs.Filed.{partway-more, partway-all, filed-on}
use Rattle.desk_opening.proofs.heading.file.Goals as goal

pub overflow_add-folders : goal.overflow_add-folders
overflow_add-folders c =
    let line = a-folder (line_at c.args.text.now c.loop-label.at) c.in-Some.label c.in-Some.next (sym c.folder_at.ensures ∙ c.in-Some.is) in
    let ahead = rw line at (line-ahead c.args.text.now c.loop-label.at) in
    omega (arith, ahead, c.loop-label.invariant.few)

pub loop-label-smaller : goal.loop-label-smaller
loop-label-smaller c =
    let line = a-folder (line_at c.args.text.now c.loop-label.at) c.in-Some.label c.in-Some.next (sym c.folder_at.ensures ∙ c.in-Some.is) in
    let ahead = rw line at (line-ahead c.args.text.now c.loop-label.at) in
    omega (arith, ahead)

pub loop-label-preserved : goal.loop-label-preserved
loop-label-preserved c =
    let line = a-folder (line_at c.args.text.now c.loop-label.at) c.in-Some.label c.in-Some.next (sym c.folder_at.ensures ∙ c.in-Some.is) in
    rw (c.store.ensures, c.store-in-Some.ensures)
    (partway-more c.args.text.now c.args.place (replicate 512 0) (replicate 512 0) _ _ _ _ _ _ _ c.loop-label.invariant line)

pub returns : goal.returns
returns c =
    let text = c.args.text.now in
    let at = c.loop-label.at in
    let last = filed-on text at ∙ no-folder (line_at text at) at (filed_at text) (sym c.folder_at.ensures ∙ c.in_default.is) in
    let all = partway-all text c.args.place (replicate 512 0) (replicate 512 0) _ _ _ _ c.loop-label.invariant last in
    rw (all.0, all.1, all.2, all.3) refl
