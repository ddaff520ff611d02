use Rattle.journal.proofs.FromBase.CutLaws.{no_cut_law}
use Rattle.journal.proofs.base_laws.no_base_law.Goals as goal

pub returns : goal.returns
returns c = no_cut_law
