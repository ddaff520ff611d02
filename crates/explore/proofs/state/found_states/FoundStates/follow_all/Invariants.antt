use Rattle.lrc_script.specs.Plan.{Plan}
use Rattle.explore.specs.FollowedStates.{AreFollowedStates, MayBeFollowedStateByEach}
use Rattle.explore.proofs.state.found_states.FoundStates.follow_all.Given as goal

abbrev pub invariant-loop-processor : goal.invariant-loop-processor
invariant-loop-processor l = (s : Plan) → MayBeFollowedStateByEach s l.steps l.initial.self l.place l.nexts
    → AreFollowedStates s l.steps l.initial.self l.self l.place l.nexts l.processor
