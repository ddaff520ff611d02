-- What a processor waits for, and who holds a lock, as they are kept.
use Rattle.std.specs.Prelude.{ℕ, zero, suc, ◌≡◌, ◌↔◌, Option, Some, None, List, slice_index_or}
use Rattle.journal.specs.declared.event.Event.{Event}
use Rattle.journal.specs.declared.event.Kind.{Kind}
use Rattle.journal.specs.declared.event.Kind.TheVariants as kind
use Rattle.judge.specs.Why.{WhyWaitsFor}
use Rattle.explore.specs.declared.state.wait_code.WaitCode.{WaitCode}
use Rattle.explore.specs.declared.state.wait_code.WaitCode.TheVariants.{Lock, Barrier, Flag}
use Rattle.explore.specs.declared.state.wait_code.LockHolder.{LockHolder}
use Rattle.explore.specs.declared.state.wait_code.ProcessorNumber.{ProcessorNumber}

-- the event that ends a wait
abbrev pub wait_code_end_of : WaitCode → Kind
wait_code_end_of (Lock l) = kind.Acquire l
wait_code_end_of Barrier = kind.Depart
wait_code_end_of (Flag f) = kind.Await f

-- and if there may be none
abbrev pub wait_code_ending : Option WaitCode → Option Kind
wait_code_ending None = None
wait_code_ending (Some w) = Some (wait_code_end_of w)

-- of each processor what it waits for, if it waits
abbrev pub WaitCodesAreKept : List Event → List (Option WaitCode) → Type 0
WaitCodesAreKept j waits = (p : ℕ) (k : Kind) → (wait_code_ending (slice_index_or waits p None) ≡ Some k) ↔ WhyWaitsFor j p k

-- how many arrivals a wait has that no departure has ended: one at the barrier
abbrev pub wait_code_arrivals_open : Option WaitCode → ℕ
wait_code_arrivals_open (Some Barrier) = 1
wait_code_arrivals_open _ = 0

-- the processor that has this number
abbrev pub wait_code_seated : Option ProcessorNumber → Option ℕ
wait_code_seated None = None
wait_code_seated (Some s) = Some s.0

-- who holds a lock, by the number that is kept of that
abbrev pub wait_code_holder_of : ℕ → Option ℕ
wait_code_holder_of zero = None
wait_code_holder_of (suc p) = Some p

-- who holds a lock, if anybody does
abbrev pub wait_code_holder : LockHolder → Option ℕ
wait_code_holder h = wait_code_holder_of h.0

-- nobody holds it
abbrev pub wait_code_nobody : LockHolder
wait_code_nobody = record { 0 = 0 }
