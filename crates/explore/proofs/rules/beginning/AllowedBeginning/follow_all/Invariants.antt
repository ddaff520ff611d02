use Rattle.lrc_script.specs.Plan.{Plan}
use Rattle.explore.specs.AllowedBeginnings.{MayFollowAllowedBeginningCalls, allowed_beginning_events}
use Rattle.explore.proofs.AllowedRuns.Lengthened.{AreLengthenedBelow}
use Rattle.explore.proofs.rules.beginning.AllowedBeginning.follow_all.Given as goal

abbrev pub invariant-loop-processor : goal.invariant-loop-processor
invariant-loop-processor l = (s : Plan) → MayFollowAllowedBeginningCalls s l.self l.sources l.calls
    → AreLengthenedBelow s (allowed_beginning_events l.self) l.calls l.processor l.initial.pending.items l.pending.items
