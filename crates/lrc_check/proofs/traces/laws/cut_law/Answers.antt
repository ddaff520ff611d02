use Rattle.lrc_check.proofs.traces.CutRefused.{cut_refused_as_law}
use Rattle.lrc_check.proofs.traces.laws.cut_law.Goals as goal

pub returns : goal.returns
returns c = cut_refused_as_law
