use Rattle.std.proofs.Common.{arith}
use Rattle.lrc_program.proofs.hints.LinesLeft.{lines_left_next, lines_left_first, lines_left_over}
use Rattle.lrc_program.proofs.hints.excerpt.excerpt_line_at.Goals as goal

pub returns-in-None : goal.returns-in-None
returns-in-None c =
    lines_left_over c.args.text.now c.loop.rest.now c.split_script_line_at.result.0.now c.loop.counter c.args.number c.loop.invariant
    (rw c.in-None.is at c.split_script_line_at.ensures.parts)
    (let test = c.loop-test.true in let before = c.saturating_sub-before.ensures in omega (arith, test, before))

pub loop-preserved : goal.loop-preserved
loop-preserved c =
    lines_left_next c.args.text.now c.loop.rest.now c.split_script_line_at.result.0.now c.in-Some.after.now c.loop.counter
    c.loop.invariant (rw c.in-Some.is at c.split_script_line_at.ensures.parts)

pub returns : goal.returns
returns c =
    lines_left_first c.args.text.now c.loop.rest.now c.split_script_line_at-2.result.0.now _ c.loop.counter c.args.number
    c.loop.invariant c.split_script_line_at-2.ensures.parts
    (let end = c.loop.auto.counter-end in let test = c.loop-test.false in let before = c.saturating_sub-before.ensures in
    omega (arith, end, test, before))
