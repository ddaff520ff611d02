use Rattle.journal.proofs.FromBase.CutLaws.{cut_twice_law}
use Rattle.journal.proofs.base_laws.cut_twice_base_law.Goals as goal

pub returns : goal.returns
returns c = cut_twice_law
