use Rattle.std.proofs.Common.{refl}
use Rattle.lrc_run.proofs.FollowedReports.{followed_report_is}
use Rattle.lrc_run.proofs.run_ending.report_run_ending.Goals as goal

pub returns : goal.returns
returns g c = λ s all. (
  followed_report_is c.in_ok-first_race.field-0 all c.finish-journal.ensures
      c.in_ok-first_race.ensures.first c.is_some-racy.ensures
      c.traffic-traffic.ensures.messages c.traffic-traffic.ensures.records c.traffic-traffic.ensures.words,
  refl,
)
