use Rattle.std.proofs.Common.{◌<◌, ap, ◌∙◌, arith}
use Rattle.explore.specs.Machines.{machine_last_or}
use Rattle.explore.proofs.MachineSteps.{machine_step_read_at}
use Rattle.explore.proofs.MachineReplies.{machine_reply_last_told, length-machine_rows}
use Rattle.explore.proofs.state.flat_state.FlatState.reply_before.Goals as goal

pub returns : goal.returns
returns c = λ s g knows sum.
    let vs = c.args.self.now.replies.items in
    let p = c.args.processor in
    let long = knows.replies.long in
    let many = length-machine_rows vs in
    let lt = c.requires in
    let within : p < s.processors = omega arith in
    machine_reply_last_told s c.args.self.now.telling g p vs c.index.result.now within (machine_step_read_at vs p c.index.result.now lt c.index.ensures) knows.replies
    c.flat_state_last_of.result (c.flat_state_last_of.ensures ∙ ap (machine_last_or 0) c.deref.ensures.value) sum
