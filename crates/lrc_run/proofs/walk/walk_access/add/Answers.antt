use Rattle.lrc_run.proofs.InstructionCalls.{instruction_calls_add_then}
use Rattle.lrc_run.proofs.walk.walk_access.add.Goals as goal

pub returns-clause-ok : goal.returns-clause-ok
returns-clause-ok g c =
    instruction_calls_add_then c.args.processor.now c.load.new.processor c.store.new.processor c.args.address c.args.value c.in_ok-reply.reply
    c.store.result c.in_ok-reply.ensures c.store.ensures
