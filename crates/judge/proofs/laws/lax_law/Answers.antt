use Rattle.judge.proofs.Refusing.{refusing_lax_law}
use Rattle.judge.proofs.laws.lax_law.Goals as goal

pub returns : goal.returns
returns c = refusing_lax_law
