use Rattle.lrc_sample.proofs.TalliedRuns.{tallied_runs_noted}
use Rattle.lrc_sample.proofs.sampling.sample_once.Goals as goal

pub returns-in-Ok : goal.returns-in-Ok
returns-in-Ok g c = tallied_runs_noted c.requires.made c.in_ok-run.ensures c.in-Ok.ensures.shown c.in-Ok.ensures.tally
