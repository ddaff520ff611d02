use Rattle.std.proofs.Common.{take}
use Rattle.lrc_script.specs.Plan.{Plan}
use Rattle.journal.specs.declared.event.Kind.TheVariants.{Load}
use Rattle.explore.specs.AllowedBeginnings.{MayFollowAllowedBeginningCall, allowed_beginning_events}
use Rattle.explore.proofs.AllowedRuns.Lengthened.{AreLengthenedByLoads}
use Rattle.explore.proofs.rules.beginning.AllowedBeginning.follow_load.Given as goal

abbrev pub invariant-loop-word : goal.invariant-loop-word
invariant-loop-word l = (s : Plan) → MayFollowAllowedBeginningCall s l.self l.sources l.processor (Load l.address 0)
    → AreLengthenedByLoads s (allowed_beginning_events l.self) l.processor l.address (take l.word-index l.word-items) l.initial.pending.items l.pending.items
