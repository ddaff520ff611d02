use Rattle.journal.proofs.FromBase.CutLaws.{flat_cut_law}
use Rattle.journal.proofs.base_laws.flat_base_law.Goals as goal

pub returns : goal.returns
returns c = flat_cut_law
