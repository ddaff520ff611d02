use Rattle.std.proofs.Common.{ℕ, ◌≤◌, ◌≢◌}
use Rattle.journal.specs.declared.event.Event.{Event}
use Rattle.journal.specs.declared.event.Kind.TheVariants.{Acquire, Release}
use Rattle.journal.specs.DidEvent.{event}
use Rattle.journal.specs.Events.{EventAt}
use Rattle.causes.proofs.lock_holders.is_lock_holder.Given as goal

abbrev pub invariant-loop-place : goal.invariant-loop-place
invariant-loop-place l = (m : ℕ) (e : Event) → l.place ≤ m → EventAt l.events m e
    → (e ≢ event l.by (Acquire l.lock)) × (e ≢ event l.by (Release l.lock))
