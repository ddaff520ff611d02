use Rattle.lrc_check.proofs.traces.UnlabelledTexts.{unlabelled_text_of_trace}
use Rattle.lrc_check.proofs.traces.laws.unlabelled_trace_law.Goals as goal

pub returns : goal.returns
returns c = unlabelled_text_of_trace
