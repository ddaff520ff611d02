use Rattle.std.proofs.Common.{arith, refl}
use Rattle.std.proofs.lemmas.Grind.{elements}
use Rattle.lrc_script.specs.Plan.{plan_of}
use Rattle.lrc_script.proofs.Faults.ScriptWalk.{script_walk_start, script_walk_next, script_walk_failed_fault, script_walk_truncated_fault, script_walk_whole_text, script_walk_uneven_fault, script_walk_one_script, script_walk_sections_fit, script_walk_line_number_fits, script_walk_rest_shorter}
use Rattle.lrc_script.proofs.script.parse.Goals as goal

pub loop-line-init : goal.loop-line-init
loop-line-init c = script_walk_start c.args.bytes.now

pub after-requires : goal.after-requires
after-requires c = c.loop-line.invariant.begun

pub overflow_add-number : goal.overflow_add-number
overflow_add-number c = omega (arith, script_walk_line_number_fits _ _ _ _ _ _ c.loop-line.invariant c.in-Some.ensures)

pub loop-line-smaller : goal.loop-line-smaller
loop-line-smaller c = script_walk_rest_shorter _ _ _ c.in-Some.ensures

pub loop-line-preserved : goal.loop-line-preserved
loop-line-preserved c = script_walk_next _ c.loop-line.invariant c.in-Some.ensures c.in-Ok.ensures.ok

pub returns-in-Err-clause-only : goal.returns-in-Err-clause-only
returns-in-Err-clause-only c =
    (script_walk_failed_fault c.in-Err.fault c.loop-line.invariant c.in-Some.ensures c.in-Err.ensures.err).1

pub returns-in-Err-clause-fault : goal.returns-in-Err-clause-fault
returns-in-Err-clause-fault c =
    (script_walk_failed_fault c.in-Err.fault c.loop-line.invariant c.in-Some.ensures c.in-Err.ensures.err).0

pub returns-in_default-whole-clause-only : goal.returns-in_default-whole-clause-only
returns-in_default-whole-clause-only c =
    λ ne. (script_walk_truncated_fault c.args.bytes.now c.loop-line.number _ c.loop-line.rest.now c.loop-line.invariant
    c.in_default.ensures c.in_default-whole.ensures.none).1

pub returns-in_default-whole-clause-fault : goal.returns-in_default-whole-clause-fault
returns-in_default-whole-clause-fault c =
    (script_walk_truncated_fault c.args.bytes.now c.loop-line.number _ c.loop-line.rest.now c.loop-line.invariant
    c.in_default.ensures c.in_default-whole.ensures.none).0

pub uneven_line-requires-clause-instructions : goal.uneven_line-requires-clause-instructions
uneven_line-requires-clause-instructions c =
    let whole =
    script_walk_whole_text c.args.bytes.now c.loop-line.number _ c.loop-line.rest.now (plan_of c.in-Some-whole.script)
    c.loop-line.invariant c.in-Some-whole.ensures.found in
    (script_walk_sections_fit (plan_of c.in-Some-whole.script) c.in-Some-whole.script.sections.items refl whole.0).1

pub returns-in-Some-uneven_line-clause-only : goal.returns-in-Some-uneven_line-clause-only
returns-in-Some-uneven_line-clause-only c =
    let whole =
    script_walk_whole_text c.args.bytes.now c.loop-line.number _ c.loop-line.rest.now (plan_of c.in-Some-whole.script)
    c.loop-line.invariant c.in-Some-whole.ensures.found in
    λ ne. (script_walk_uneven_fault c.args.bytes.now (plan_of c.in-Some-whole.script) _ whole.0 whole.1
    c.in-Some-uneven_line.ensures.uneven).1

pub returns-in-None-clause-again : goal.returns-in-None-clause-again
returns-in-None-clause-again c =
    let whole =
    script_walk_whole_text c.args.bytes.now c.loop-line.number _ c.loop-line.rest.now (plan_of c.in-Some-whole.script)
    c.loop-line.invariant c.in-Some-whole.ensures.found in
    script_walk_one_script c.args.bytes.now (plan_of c.in-Some-whole.script)
    (record { but_uneven = whole.0; even = c.in-None.ensures.even }, whole.1)

pub uneven_line-requires-clause-sections : goal.uneven_line-requires-clause-sections
uneven_line-requires-clause-sections c = grind (arith, elements)
