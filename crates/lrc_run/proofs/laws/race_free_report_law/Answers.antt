use Rattle.lrc_run.proofs.FollowedReports.{race_free_followed_report}
use Rattle.lrc_run.proofs.laws.race_free_report_law.Goals as goal

pub returns : goal.returns
returns c = race_free_followed_report
