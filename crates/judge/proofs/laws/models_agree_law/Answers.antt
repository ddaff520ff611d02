use Rattle.judge.proofs.ModelsAgreed.{models_agree_law}
use Rattle.judge.proofs.laws.models_agree_law.Goals as goal

pub returns : goal.returns
returns c = models_agree_law
