-- What a search of no states tells of a script.
use Rattle.std.proofs.Common.{ℕ, ◌≡◌, subst}
use Rattle.lrc_script.specs.Plan.{Plan}
use Rattle.conformance.specs.FlatRuns.{NeverRacesFlat}
use Rattle.explore.specs.declared.outcomes.answer.Explored.{Explored}
use Rattle.explore.specs.declared.outcomes.answer.Hanging.TheVariants as hanging
use Rattle.explore.specs.declared.outcomes.answer.Verdict.TheVariants as verdict
use Rattle.explore.specs.declared.outcomes.telling.Detail.{Detail}
use Rattle.explore.specs.Explored.{IsExplored, IsExploredHanging, IsExploredVerdict}
use Rattle.explore.proofs.PrefixRuns.Beginnings.{prefix_beginning_never_races}
use Rattle.lrc_tester.specs.Patterns.{NeverHangsFlat}

-- a script that is called race-free never races
pub promised_race_free : (s : Plan) (d : Detail) (most : ℕ) (x : Explored) → IsExplored s d most x → x.verdict ≡ verdict.RaceFree → NeverRacesFlat s
promised_race_free s d most x is free = prefix_beginning_never_races s (subst (IsExploredVerdict s) free is.verdict)

-- and one that is said never to hang never does
pub promised_hang_free : (s : Plan) (d : Detail) (most : ℕ) (x : Explored) → IsExplored s d most x → x.hanging ≡ hanging.Never → NeverHangsFlat s
promised_hang_free s d most x is never = subst (IsExploredHanging s) never is.hanging
