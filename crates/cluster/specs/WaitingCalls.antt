-- A call that waits for what its processor awaits.
use Rattle.std.specs.Prelude.{◌≡◌, ◌≢◌, Option, Some, None, Result, Ok, Err, IsOk}
use Rattle.journal.specs.Deadlocks.{IsDeadlock}
use Rattle.book.specs.declared.refused.Refused.{Refused}
use Rattle.cluster.specs.Copies.Local.{Local, calls}
use Rattle.cluster.specs.declared.waited.Waited.{Waited}
use Rattle.cluster.specs.declared.waited.Waited.TheVariants.{MayHaveCome, Stuck, Deserted}
use Rattle.cluster.specs.ProcessorRefusals.{processor_refusal_of_flush}
use Rattle.cluster.specs.Covers.{HasCoverage, IsCoverAllowed}
use Rattle.cluster.specs.Entering.{EnteredAndDid}
use Rattle.cluster.specs.TakingCalls.{IsTakingCallLate}

-- what is answered if a look came to this: after a sleep something may have come
abbrev pub waiting_call_answer : Option Waited → Waited
waiting_call_answer None = MayHaveCome
waiting_call_answer (Some w) = w

-- nothing was changed
abbrev pub IsUnchangedByWaitingCall : Local → Local → Type 0
IsUnchangedByWaitingCall m n = n ≡ m

-- the call entered and changed nothing, and says so if the history that it found is a deadlock
pub record HasLookedInWaitingCall (old new : Local) (answer : Result Waited Refused) : Type 0 where
  pub entered : EnteredAndDid IsUnchangedByWaitingCall old new
  pub ok : IsOk answer
  pub exact : IsDeadlock new.sizes new.seen → answer ≡ Ok Stuck

-- A call that waits changes nothing but an entry that is spent, and what the processor has seen. It does nothing if
-- nothing is awaited, and is refused if the entries are spent; else it looks. 'Stuck' is said of a deadlock alone, and
-- 'deserted' only if what is awaited has not come, by what the processor has seen
pub record IsWaitingCall (old new : Local) (answer : Result Waited Refused) : Type 0 where
  pub kept : new ≡ record old { entries = new.entries; seen = new.seen; cut = new.cut }
  pub idle : old.awaits ≡ None → (answer ≡ Ok MayHaveCome) × (new ≡ old)
  pub outside : old.awaits ≢ None → (e : Refused) → processor_refusal_of_flush old ≡ Some e → (answer ≡ Err e) × (new ≡ old)
  pub looked : old.awaits ≢ None → processor_refusal_of_flush old ≡ None → HasLookedInWaitingCall old new answer
  pub stuck : answer ≡ Ok Stuck → IsDeadlock new.sizes new.seen
  pub deserted : answer ≡ Ok Deserted → IsTakingCallLate new
  pub calls_are : calls new ≡ calls old
  pub covers : HasCoverage new
  pub allowed : IsCoverAllowed old → IsCoverAllowed new
