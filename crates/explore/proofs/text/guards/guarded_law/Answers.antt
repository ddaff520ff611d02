use Rattle.explore.proofs.text.guards.guarded_law.Goals as goal
use Rattle.explore.proofs.Locksets.TextGuardLaw.{text_guard_law}

pub returns : goal.returns
returns c = text_guard_law
