use Rattle.lrc_explore.proofs.schedules.Going.{schedule_going_longer_by_call}
use Rattle.lrc_explore.proofs.schedules.laws.schedule_goes_on_law.Goals as goal

pub returns : goal.returns
returns c = schedule_going_longer_by_call
