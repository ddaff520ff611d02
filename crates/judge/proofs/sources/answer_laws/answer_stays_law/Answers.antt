use Rattle.judge.proofs.sources.Answering.{answering_longer_law}
use Rattle.judge.proofs.sources.answer_laws.answer_stays_law.Goals as goal

pub returns : goal.returns
returns c = answering_longer_law
