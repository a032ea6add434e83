-- `past_lines` meets its contract. The invariant: from i on, the bytes 10 that are left lead to the same place.
use Rattle.std.proofs.Common.{rules, arith, ◌-◌, ◌+◌, ◌≡◌, ◌∙◌, sym}
use Rattle.names.proofs.Passing.{end-most, past-last, past-line, past-none}
use Rattle.names.proofs.scan.past_lines.Goals as goal

pub returns-then-end-text : goal.returns-then-end-text
returns-then-end-text c =
    c.line_end-end.ensures ∙ (sym (past-last _ c.loop-done.i _ (λ z. omega (arith, z, c.loop-done-test.true)) c.loop-done.invariant.0 (omega (arith, c.if-end-text.true, c.line_end-end.ensures))) ∙ c.loop-done.invariant.1)

pub overflow_add-i : goal.overflow_add-i
overflow_add-i c =
    let within = end-most c.args.text.now c.loop-done.i c.loop-done.invariant.0 in search (rules, within)

pub loop-done-preserved : goal.loop-done-preserved
loop-done-preserved c =
    let text = c.args.text.now in
    let i = c.loop-done.i in
    let left = c.args.n - c.loop-done.done in
    let within = end-most text i c.loop-done.invariant.0 in
    let fewer : c.args.n - (c.loop-done.done + 1) ≡ left - 1 = omega (arith, c.loop-done-test.true) in (
      omega (arith, within, c.if-end-text.false, c.line_end-end.ensures),
      rw (c.line_end-end.ensures, fewer)
          (sym (past-line text i left (λ z. omega (arith, z, c.loop-done-test.true)) (omega (arith, within, c.if-end-text.false, c.line_end-end.ensures))) ∙ c.loop-done.invariant.1),
    )

pub returns : goal.returns
returns c =
    let none : c.args.n - c.loop-done.done ≡ 0 = omega (arith, c.loop-done-test.false) in
    sym (past-none _ _) ∙ rw none at c.loop-done.invariant.1
