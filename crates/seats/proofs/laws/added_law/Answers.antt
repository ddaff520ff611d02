use Rattle.seats.proofs.TalliedHistories.{tallied_history_law as added}
use Rattle.seats.proofs.laws.added_law.Goals as goal

pub returns : goal.returns
returns c = added
