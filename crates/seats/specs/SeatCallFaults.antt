-- What a fault of a seat's call tells.
use Rattle.std.specs.Prelude.{ℕ, ◌≡◌, ◌⊎◌, ◌+◌, ◌<◌, Bool, true, false, Some, None, List, ◌∷◌, ◌++◌, Result, Ok, Err, length}
use Rattle.journal.specs.declared.event.Kind.{Kind}
use Rattle.journal.specs.declared.event.Kind.TheVariants.{Load, Store}
use Rattle.journal.specs.Deadlocks.{IsDeadlock}
use Rattle.base.specs.Limits.{most_events}
use Rattle.book.specs.declared.refused.Refused.{Refused}
use Rattle.book.specs.declared.refused.Refused.TheVariants.{JournalFull, NoMemory, SeatSpent}
use Rattle.cluster.specs.Copies.Local.{Local}
use Rattle.cluster.specs.ProcessorRefusals.{processor_refusal_at_once, processor_refusal_block_full, processor_refusal_is_spent, processor_refusal_of_closing, processor_refusal_or_spent}
use Rattle.cluster.specs.TakingCalls.{IsTakingCallLate}
use Rattle.cluster.specs.declared.waited.Waited.{Waited}
use Rattle.cluster.specs.declared.waited.Waited.TheVariants.{MayHaveCome}
use Rattle.cluster.specs.declared.waited.Waited.TheVariants as waited
use Rattle.seats.specs.declared.fault.SeatFault.{SeatFault}
use Rattle.seats.specs.declared.fault.SeatFault.TheVariants as fault
use Rattle.seats.specs.Acting.{HasActed}
use Rattle.seats.specs.KeptLayout.{kept_layout_lets_access}
use Rattle.seats.specs.SeatCalls.{IsSeatCallBegun, IsSeatCallUndone}
use Rattle.seats.specs.Sitting.{SittingSeat}

-- why a call that would leave so many events couldn't be made in the book: by what the processor has seen then the journal
-- has no room for them; it has entered as often as it may; or no memory was to be had
abbrev pub IsSeatCallEnteringFault : ℕ → Local → Refused → Type 0
IsSeatCallEnteringFault many m JournalFull = most_events + m.cut < length m.seen + many
IsSeatCallEnteringFault many m SeatSpent = processor_refusal_is_spent m ≡ true
IsSeatCallEnteringFault many m NoMemory = Unit {0}
IsSeatCallEnteringFault many m e = ⊥

-- why nothing was done of a call that closes the interval by this event: it is refused at once, or it couldn't be made
abbrev pub IsSeatCallUndoneFault : Local → Kind → Local → SeatFault → Type 0
IsSeatCallUndoneFault old k new (fault.Refused e) =
    (processor_refusal_or_spent (processor_refusal_of_closing old k) old ≡ Some e) ⊎ IsSeatCallEnteringFault (length old.block + 1) new e
IsSeatCallUndoneFault old k new f = ⊥

-- why it waits still: the history that it found is a deadlock; what it awaits hasn't come, by what it has seen, and nobody is
-- left; or the take couldn't be made
abbrev pub IsSeatCallWaitFault : Local → SeatFault → Type 0
IsSeatCallWaitFault m fault.Stuck = IsDeadlock m.sizes m.seen
IsSeatCallWaitFault m fault.Deserted = IsTakingCallLate m
IsSeatCallWaitFault m (fault.Refused e) = IsSeatCallEnteringFault 1 m e
IsSeatCallWaitFault m f = ⊥

-- the fault that is told of what a wait came to
abbrev pub IsSeatCallWaitTold : Result Waited Refused → SeatFault → Type 0
IsSeatCallWaitTold (Ok MayHaveCome) f = ⊥
IsSeatCallWaitTold (Ok waited.Stuck) f = f ≡ fault.Stuck
IsSeatCallWaitTold (Ok waited.Deserted) f = f ≡ fault.Deserted
IsSeatCallWaitTold (Err e) f = f ≡ fault.Refused e

-- a fault of a call that closes the interval by this event: nothing was done, or it has begun to wait and waits still
abbrev pub IsSeatCallFault : Local → Local → Kind → SeatFault → Type 0
IsSeatCallFault old new k f =
    (IsSeatCallUndone old new × IsSeatCallUndoneFault old k new f) ⊎ (IsSeatCallBegun old new k × IsSeatCallWaitFault new f)

-- the open block is full, and couldn't be handed in
abbrev pub IsSeatCallFlushFault : Local → Refused → Type 0
IsSeatCallFlushFault m e = (processor_refusal_block_full m ≡ true) × IsSeatCallEnteringFault (length m.block) m e

-- why an access of this address was refused: it is refused at once, and nothing was done; or a full block couldn't be handed in
abbrev pub IsSeatCallAccessRefusal : Local → ℕ → Local → Refused → Type 0
IsSeatCallAccessRefusal old a new e =
    ((processor_refusal_at_once old a ≡ Some e) × (new ≡ old)) ⊎ ((processor_refusal_at_once old a ≡ None) × IsSeatCallFlushFault new e)

-- a fault of an access of this address: the layout doesn't let it, and nothing was done; or the layout does, and it was refused
abbrev pub IsSeatCallAccessFault : SittingSeat → Local → Local → ℕ → Bool → SeatFault → Type 0
IsSeatCallAccessFault id old new a stores (fault.NotAllowed x) =
    (x ≡ a) × (kept_layout_lets_access id old a stores ≡ false) × (new ≡ old)
IsSeatCallAccessFault id old new a stores (fault.Refused e) =
    (kept_layout_lets_access id old a stores ≡ true) × IsSeatCallAccessRefusal old a new e
IsSeatCallAccessFault id old new a stores f = ⊥

-- a fault of the call that is to add this event
abbrev pub IsSeatCallStepFault : SittingSeat → Local → Local → Kind → SeatFault → Type 0
IsSeatCallStepFault id old new (Load a v) f = IsSeatCallAccessFault id old new a false f
IsSeatCallStepFault id old new (Store a v) f = IsSeatCallAccessFault id old new a true f
IsSeatCallStepFault id old new k f = IsSeatCallFault old new k f

-- it has done a beginning of this, and then the call for something after that beginning came to this fault
pub record HasSeatCallFaultIn (id : SittingSeat) (old new : Local) (kinds : List Kind) (f : SeatFault) : Type 0 where
  pub done : List Kind
  pub between : List Kind
  pub next : Kind
  pub later : List Kind
  pub all : kinds ≡ done ++ (between ++ next ∷ later)
  pub before : Local
  pub acted : HasActed old before done
  pub fault : IsSeatCallStepFault id before new next f
