use Rattle.judge.proofs.HistoryRanges.{history_range_law}
use Rattle.judge.proofs.laws.history_range_law.Goals as goal

pub returns : goal.returns
returns c = history_range_law
