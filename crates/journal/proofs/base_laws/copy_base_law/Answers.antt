use Rattle.journal.proofs.FromBase.CutLaws.{copy_cut_law}
use Rattle.journal.proofs.base_laws.copy_base_law.Goals as goal

pub returns : goal.returns
returns c = copy_cut_law
