use Rattle.std.proofs.Common.{sym, subst}
use Rattle.explore.specs.Prefixes.FlatBeginnings.{IsFlatBeginning}
use Rattle.explore.proofs.search.whole_run.RunSoFar.into_racy.Goals as goal

pub returns : goal.returns
returns c = λ s run. c.cut_racing_history.ensures s (subst (IsFlatBeginning s) (sym run.1.events) run.1.knows.beginning)
