use Rattle.lrc_run.proofs.AddedCalls.{added_calls_load}
use Rattle.lrc_run.proofs.walk.walk_access.load.Goals as goal

pub returns : goal.returns
returns g c = added_calls_load c.args.processor.now c.access.new.processor c.args.address c.access.result c.access.ensures
