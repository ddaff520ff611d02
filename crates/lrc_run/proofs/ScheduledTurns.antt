-- Turns that a schedule has.
use Rattle.std.proofs.Common.{ℕ, ◌≡◌, ◌≤◌, Some, List, length, slice_get, subst, ap, ◌∙◌}
use Rattle.std.specs.Prelude.{◌↔◌}
use Rattle.journal.specs.Sizes.{Sizes}
use Rattle.lrc_script.specs.Plan.{Plan}
use Rattle.conformance.specs.Follows.{plan_sizes}
use Rattle.conformance.specs.ScheduleTexts.{IsScheduleFault}
use Rattle.conformance.specs.declared.progress.TurnProgress.{TurnProgress}
use Rattle.conformance.specs.declared.schedule.Misfit.TheVariants.{NoProcessor}
use Rattle.conformance.specs.declared.schedule.ScheduleFault.{ScheduleFault}
use Rattle.conformance.specs.declared.schedule.ScheduleFault.TheVariants as fault
use Rattle.cluster.specs.Copies.Local.{Local}
use Rattle.cluster.specs.NewClusters.{SharedCluster}
use Rattle.lrc_run.specs.ScheduledTurns.{IsScheduledTurnFault}
use Rattle.lrc_run.specs.RunSteps.{AreAtRunSteps}

-- a fault of a turn is one of the schedule
scheduled_turn_fault : (s : Plan) (turns : List ℕ) (n place p : ℕ) (e : ScheduleFault) → n ≡ s.processors
    → slice_get turns place ≡ Some p → IsScheduledTurnFault n place p e → IsScheduleFault s turns e
scheduled_turn_fault s turns n place p (fault.Run why) many at told = told
scheduled_turn_fault s turns n place p (fault.Misfit turn misfit) many at told = record {
  processor = p;
  place = place;
  turn_is = told.0;
  at = at;
  none = let P : ℕ → Type 0 = λ k. (misfit ≡ NoProcessor) ↔ (k ≤ p) in subst P many told.1;
}

-- where there are so many processors
pub scheduled_turn_fault_at : (s : Plan) {c : SharedCluster} (turns : List ℕ) {ms : List Local} {all : List TurnProgress} (place : ℕ) {p : ℕ} (e : ScheduleFault) {n : ℕ} → n ≡ length ms → c.sizes ≡ plan_sizes s → AreAtRunSteps c s.sections ms all
    → slice_get turns place ≡ Some p → IsScheduledTurnFault n place p e → IsScheduleFault s turns e
scheduled_turn_fault_at s turns place {p = p} e {n = n} long sizes way at told =
    scheduled_turn_fault s turns n place p e (long ∙ way.many ∙ ap (λ (x : Sizes). x.processors) sizes) at told
