use Rattle.std.proofs.Common.{◌≡◌, ◌<◌, length, slice_get, ap, ◌∙◌, arith}
use Rattle.explore.proofs.MachineSteps.{machine_step_read_at}
use Rattle.explore.proofs.TextWalks.NextSteps.{next_steps_found, next_steps_told}
use Rattle.explore.proofs.text.walk.TextWalk.next_step.Goals as goal

pub returns : goal.returns
returns c =
    let rows = c.args.self.now.rows in
    let long = c.requires.walks.order.long in
    let size = rows.ok.0 in
    let below = c.requires.processor in
    let within : c.args.processor < length rows.items = omega arith in
    let row_at = machine_step_read_at rows.items c.args.processor c.index.result.now within c.index.ensures in
    let calls_at = machine_step_read_at c.args.steps.now c.args.processor c.index-steps-processor.result below c.index-steps-processor.is in
    let calls = c.index-steps-processor.result.items in
    let place = c.index.result.now.place in
    let found = next_steps_found _ c.deref.result.now place _ c.get.result c.get.ensures.lookup.3 c.get.ensures.lookup.1 in
    let there : c.copied.result ≡ slice_get calls place = c.copied.ensures ∙ found ∙ ap (λ xs. slice_get xs place) c.deref.ensures.value in
    next_steps_told c.args.steps.now rows.items c.args.processor c.index.result.now c.index-steps-processor.result row_at calls_at c.copied.result there
