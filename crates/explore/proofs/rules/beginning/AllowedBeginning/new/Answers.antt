use Rattle.std.proofs.Common.{sym, subst}
use Rattle.explore.specs.AllowedRuns.{IsAllowedRunBeginning}
use Rattle.explore.specs.KeptWaiting.{TellsKeptWaiting}
use Rattle.explore.proofs.AllowedRuns.NextAllowed.{next_allowed_from_nothing}
use Rattle.explore.proofs.rules.beginning.AllowedBeginning.new.Goals as goal

pub returns-clause-told : goal.returns-clause-told
returns-clause-told c = λ s. record {
  beginning = subst (IsAllowedRunBeginning s) (sym c.new.ensures.items) (next_allowed_from_nothing s);
  waiting = subst (λ j. TellsKeptWaiting j c.new-2.result) (sym c.new.ensures.items) c.new-2.ensures;
}
