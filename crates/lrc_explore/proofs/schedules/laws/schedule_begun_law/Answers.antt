use Rattle.lrc_explore.proofs.schedules.Begun.{schedule_begun_law}
use Rattle.lrc_explore.proofs.schedules.laws.schedule_begun_law.Goals as goal

pub returns : goal.returns
returns c = schedule_begun_law
