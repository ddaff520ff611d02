use Rattle.lrc_sample.proofs.TellingLaws.{telling_law_race_free}
use Rattle.lrc_sample.proofs.laws.sample_race_free_law.Goals as goal

pub returns : goal.returns
returns c = telling_law_race_free
