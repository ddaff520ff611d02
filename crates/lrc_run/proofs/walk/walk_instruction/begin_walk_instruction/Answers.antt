use Rattle.lrc_run.proofs.walk.walk_instruction.begin_walk_instruction.Goals as goal

pub returns-clause-ok : goal.returns-clause-ok
returns-clause-ok g c = rw c.waits.ensures c.in_ok-call.ensures.ok
