use Rattle.lrc_run.proofs.AddedCalls.{added_calls_refused, added_calls_store}
use Rattle.lrc_run.proofs.walk.walk_access.store.Goals as goal

pub returns-in-Ok : goal.returns-in-Ok
returns-in-Ok g c =
    added_calls_store c.args.processor.now c.access.new.processor c.args.address c.args.value c.in-Ok.field-0 c.in-Ok.ensures

pub returns-in-Err : goal.returns-in-Err
returns-in-Err g c =
    added_calls_refused c.args.processor.now c.access.new.processor c.args.address c.in-Err.refused c.in-Err.ensures
