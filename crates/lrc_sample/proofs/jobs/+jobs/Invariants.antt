use Rattle.std.proofs.Common.{◌+◌, ◌*◌}
use Rattle.lrc_sample.proofs.jobs.+jobs.Given as goal

abbrev pub decreases-sampled_runs_by_jobs : goal.decreases-sampled_runs_by_jobs
decreases-sampled_runs_by_jobs g l = 2 * l.jobs

abbrev pub decreases-before : goal.decreases-before
decreases-before g l = 2 * l.first + 1

abbrev pub decreases-after : goal.decreases-after
decreases-after g l = 2 * l.second + 1
