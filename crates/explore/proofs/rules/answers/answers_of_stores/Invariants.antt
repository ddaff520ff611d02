use Rattle.std.proofs.Common.{take}
use Rattle.explore.specs.AllowedAnswers.{AreAllowedAnswersOf}
use Rattle.explore.proofs.rules.answers.answers_of_stores.Given as goal

abbrev pub invariant-loop-store : goal.invariant-loop-store
invariant-loop-store l = AreAllowedAnswersOf (take l.store-index l.stores) l.answers.items
