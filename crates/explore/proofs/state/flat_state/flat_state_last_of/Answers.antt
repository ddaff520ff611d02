use Rattle.std.proofs.Common.{sym}
use Rattle.explore.proofs.MachineReplies.{machine_reply_last_some}
use Rattle.explore.proofs.state.flat_state.flat_state_last_of.Goals as goal

pub returns-in-Some : goal.returns-in-Some
returns-in-Some c = machine_reply_last_some 0 c.args.words.now c.in-Some.word.now (sym c.in-Some.ensures.value)
