use Rattle.lrc_sample.proofs.TellingLaws.{telling_law_first_run}
use Rattle.lrc_sample.proofs.laws.sample_first_law.Goals as goal

pub returns : goal.returns
returns c = telling_law_first_run
