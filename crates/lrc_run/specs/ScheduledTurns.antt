-- Turns that a schedule has.
use Rattle.std.specs.Prelude.{ℕ, ◌≡◌, ◌≢◌, ◌≤◌, ◌+◌, ◌↔◌}
use Rattle.conformance.specs.declared.cause.Cause.TheVariants.{Stuck}
use Rattle.conformance.specs.declared.schedule.Misfit.TheVariants.{NoProcessor}
use Rattle.conformance.specs.declared.schedule.ScheduleFault.{ScheduleFault}
use Rattle.conformance.specs.declared.schedule.ScheduleFault.TheVariants as fault

-- why p didn't get on at this place of a schedule for n processors: it is none of them exactly if that is what is said; or
-- what ends any run by turns
abbrev pub IsScheduledTurnFault : ℕ → ℕ → ℕ → ScheduleFault → Type 0
IsScheduledTurnFault n place p (fault.Run why) = why.cause ≢ Stuck
IsScheduledTurnFault n place p (fault.Misfit turn misfit) = (turn ≡ place + 1) × ((misfit ≡ NoProcessor) ↔ (n ≤ p))
