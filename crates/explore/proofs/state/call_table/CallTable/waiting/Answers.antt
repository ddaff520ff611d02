use Rattle.std.proofs.Common.{◌≡◌, subst, sym, ◌∙◌, arith}
use Rattle.std.proofs.lemmas.List.{at_drop_all}
use Rattle.std.proofs.lemmas.Grind.{elements, common_steps}
use Rattle.explore.specs.CallTables.{call_waiting, call_waiting_from}
use Rattle.explore.specs.KeptWaiting.{IsLikeKeptWaiting}
use Rattle.explore.proofs.MachineSteps.{machine_step_read_at}
use Rattle.explore.proofs.CallTables.Told.{call_told_like, call_told_row_small}
use Rattle.explore.proofs.state.call_table.CallTable.waiting.Goals as goal

pub tell-requires-clause-small : goal.tell-requires-clause-small
tell-requires-clause-small c =
    let t = c.args.self.now in
    let p = c.loop-processor.processor in
    let before = c.loop-processor-test.true in
    let count = c.len-processor-end.ensures in
    let long = t.rows.ok.0 in
    call_told_row_small c.requires.table.0 t c.requires.table.1 p c.index.result.now
    (machine_step_read_at t.rows.items p c.index.result.now (omega (arith, before, count, long)) c.index.ensures)

pub returns-clause-like : goal.returns-clause-like
returns-clause-like c = λ m known done same.
    let t = c.args.self.now in
    let p = c.loop-processor.processor in
    let over = c.loop-processor-test.false in
    let count = c.len-processor-end.ensures in
    let long = t.rows.ok.0 in
    let all = at_drop_all (λ xs. call_waiting_from xs p c.args.done.now c.loop-processor.waiting) t.rows.items p (omega (arith, over, count, long)) in
    let is : c.loop-processor.waiting ≡ call_waiting t c.args.done.now c.args.asked = sym all ∙ c.loop-processor.invariant in
    subst (IsLikeKeptWaiting m.waiting) (sym is)
    (subst (λ d. IsLikeKeptWaiting m.waiting (call_waiting t d c.args.asked)) (sym done)
    (call_told_like known.plan t known.table known.events m known.knows c.args.asked same))

pub tell-requires-clause-calls : goal.tell-requires-clause-calls
tell-requires-clause-calls c = grind (arith, elements)

pub loop-processor-preserved : goal.loop-processor-preserved
loop-processor-preserved c = grind (arith, common_steps)

pub returns-clause-is : goal.returns-clause-is
returns-clause-is c = grind (arith, common_steps)
