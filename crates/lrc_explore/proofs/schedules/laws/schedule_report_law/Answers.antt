use Rattle.lrc_explore.proofs.schedules.Reports.{schedule_report_law}
use Rattle.lrc_explore.proofs.schedules.laws.schedule_report_law.Goals as goal

pub returns : goal.returns
returns c = schedule_report_law
