use Rattle.std.proofs.Common.{List}
use Rattle.std.specs.Prelude.{IfSome}
use Rattle.lrc_script.specs.Plan.{Plan}
use Rattle.journal.specs.declared.event.Event.{Event}
use Rattle.explore.specs.FreeChoice.{HasPersistentAsks, IsFreeChoiceGiven}
use Rattle.explore.proofs.search.persistent_set.persistent_set_of_fewest_asks.Given as goal

abbrev pub invariant-loop-processor : goal.invariant-loop-processor
invariant-loop-processor l = IfSome l.best (λ members. (s : Plan) (g : List Event) → IsFreeChoiceGiven s l.steps l.facts l.state g
    → HasPersistentAsks l.steps g l.nexts members)
