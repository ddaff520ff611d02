use Rattle.judge.proofs.sources.Answering.{answering_law}
use Rattle.judge.proofs.sources.answer_laws.answers_law.Goals as goal

pub returns : goal.returns
returns c = answering_law
