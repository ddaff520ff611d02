use Rattle.journal.proofs.FromBase.CutLaws.{well_formed_cut_law}
use Rattle.journal.proofs.base_laws.well_formed_base_law.Goals as goal

pub returns : goal.returns
returns c = well_formed_cut_law
