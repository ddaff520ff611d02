use Rattle.judge.proofs.Refusing.{refusing_why_law}
use Rattle.judge.proofs.laws.why_law.Goals as goal

pub returns : goal.returns
returns c = refusing_why_law
