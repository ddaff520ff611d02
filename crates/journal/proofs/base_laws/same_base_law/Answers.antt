use Rattle.journal.proofs.FromBase.CutLaws.{same_cut_law}
use Rattle.journal.proofs.base_laws.same_base_law.Goals as goal

pub returns : goal.returns
returns c = same_cut_law
