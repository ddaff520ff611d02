use Rattle.lrc_explore.proofs.schedules.Going.{schedule_going_never_stuck}
use Rattle.lrc_explore.proofs.schedules.laws.schedule_never_stuck_law.Goals as goal

pub returns : goal.returns
returns c = schedule_going_never_stuck
