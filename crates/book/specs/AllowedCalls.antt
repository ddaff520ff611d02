-- When a call of the book may be made: by some history that the book represents.
use Rattle.std.specs.Prelude.{ℕ, ◌≡◌, ◌≢◌, ◌<◌, ◌≤◌, false, Option, List, [], Some, None, length, slice_get, slice_index, slice_index_or, slice_set}
use Rattle.journal.specs.declared.event.Event.{Event}
use Rattle.journal.specs.declared.event.Kind.{Kind}
use Rattle.journal.specs.declared.event.Kind.TheVariants.{Ask, Release, Set, Await}
use Rattle.journal.specs.Sizes.{Sizes}
use Rattle.journal.specs.Events.{EventAt, event_closes, event_takes}
use Rattle.journal.specs.WellFormed.{WellFormedKindInRange, Holds}
use Rattle.interval.specs.KeptClosings.{KeptClosings, HasKeptClosingsBetween, kept_closings_between}
use Rattle.book.specs.BookState.{BookState, book_state_time_of}
use Rattle.book.specs.Messages.{message_for, sent_with_message}
use Rattle.book.specs.KeptIntervals.{AreKeptIntervalsFromFirst, AreKeptIntervalsTight}
use Rattle.book.specs.RepresentedHistory.{RepresentsSomeHistory}

-- the event is a load, a store or a fetch of p within the sizes
pub record IsAllowedInnerCall (s : Sizes) (p : ℕ) (e : Event) : Type 0 where
  pub mine : e.processor ≡ p
  pub takes : event_takes e.kind ≡ false
  pub closes : event_closes e.kind ≡ false
  pub in_range : WellFormedKindInRange s e.kind

-- a block of p: loads, stores and fetches
abbrev pub IsBlockOfAllowedCalls : Sizes → ℕ → List Event → Type 0
IsBlockOfAllowedCalls s p block = (k : ℕ) (e : Event) → EventAt block k e → IsAllowedInnerCall s p e

-- p waits for nothing, and hands in a block
pub record AllowsIdleBlockCall (s : Sizes) (b : BookState) (p : ℕ) (block : List Event) : Type 0 where
  pub idle : slice_get b.awaits p ≡ Some None
  pub inner : IsBlockOfAllowedCalls s p block

-- p is a processor, and hands in a block, which is empty if it waits
pub record AllowsBlockCall (s : Sizes) (b : BookState) (p : ℕ) (block : List Event) : Type 0 where
  pub waits : (w : Option Kind) × (slice_get b.awaits p ≡ Some w) × (w ≢ None → block ≡ [])
  pub inner : IsBlockOfAllowedCalls s p block

-- by some history, p may hand in this block, which is empty if p waits
pub record AllowsFlushCall (b : BookState) (p : ℕ) (block : List Event) : Type 0 where
  pub by : RepresentsSomeHistory b
  pub gives : AllowsBlockCall by.sizes b p block

-- by some history, p waits for nothing and may hand in this block
pub record AllowsClosingCall (b : BookState) (p : ℕ) (block : List Event) : Type 0 where
  pub by : RepresentsSomeHistory b
  pub hands_in : AllowsIdleBlockCall by.sizes b p block

-- p may hand in this block and ask for lock l, which it doesn't hold by the same history
pub record AllowsAskCall (b : BookState) (p l : ℕ) (block : List Event) : Type 0 where
  pub call : AllowsClosingCall b p block
  pub range : l < call.by.sizes.locks
  pub free : ¬ Holds call.by.history p l

-- p may hand in this block and release lock l, which it holds by the same history
pub record AllowsReleaseCall (b : BookState) (p l : ℕ) (block : List Event) : Type 0 where
  pub call : AllowsClosingCall b p block
  pub range : l < call.by.sizes.locks
  pub held : Holds call.by.history p l

-- what is asked of p's call that closes its interval by this event
abbrev pub AllowsCallThatCloses : Kind → BookState → ℕ → List Event → Type 0
AllowsCallThatCloses (Ask l) b p block = AllowsAskCall b p l block
AllowsCallThatCloses (Release l) b p block = AllowsReleaseCall b p l block
AllowsCallThatCloses (Set f) b p block = AllowsClosingCall b p block × (f < length b.flags)
AllowsCallThatCloses _ b p block = AllowsClosingCall b p block

-- by some history, p is a processor
pub record IsProcessorOfAllowedCall (b : BookState) (p : ℕ) : Type 0 where
  pub by : RepresentsSomeHistory b
  pub processor : p < by.sizes.processors

-- the book represents some history, and p waits for this
pub record AllowsTakeCall (b : BookState) (p : ℕ) (k : Kind) : Type 0 where
  pub by : RepresentsSomeHistory b
  pub waits : slice_get b.awaits p ≡ Some (Some k)

-- p waits for something
pub record AllowsSomeTakeCall (b : BookState) (p : ℕ) : Type 0 where
  pub kind : Kind
  pub take : AllowsTakeCall b p kind

-- p has a timestamp, with an entry of its own
pub record IsOpenForAllowedCall (b : BookState) (p : ℕ) : Type 0 where
  pub within : p < length b.times
  pub own : p < length (book_state_time_of b p)

-- processor r has a timestamp, and no interval is dropped that it doesn't cover
pub record AllowsNoticesOfCall (c : KeptClosings) (times : List (List ℕ)) (r : ℕ) : Type 0 where
  pub within : r < length times
  pub long : length (slice_index_or times r []) ≡ length c.first
  pub kept : (q : ℕ) → slice_index c.first q ≤ slice_index (slice_index_or times r []) q

-- the flag can be signalled to one with the timestamp `own`
pub record AllowsSignalOfCall (c : KeptClosings) (flags : List (Option (List ℕ))) (own : List ℕ) (f : ℕ) : Type 0 where
  pub within : f < length flags
  pub keeps : (t : List ℕ) → slice_index_or flags f None ≡ Some t → HasKeptClosingsBetween c own t

-- the signal of flag f, which has the timestamp `time`, is what p waits for, whose timestamp is `own`
pub record IsSignalledForAllowedCall (b : BookState) (p f : ℕ) (own time : List ℕ) : Type 0 where
  pub keeps : HasKeptClosingsBetween b.closed own time
  pub brings : kept_closings_between b.closed own time ≡ sent_with_message (message_for b p (Await f))

-- the intervals may be trimmed after p's timestamp has risen from `before`: if p isn't alone, nothing was left
-- to trim till then
pub record AllowsTrimOfCall (c : KeptClosings) (times : List (List ℕ)) (p : ℕ) (before : List ℕ) : Type 0 where
  pub within : p < length times
  pub owners : length c.first ≡ length times
  pub long : (i : ℕ) (t : List ℕ) → slice_get times i ≡ Some t → length t ≡ length times
  pub old_long : length before ≡ length times
  pub from : AreKeptIntervalsFromFirst c
  pub tight : 1 < length times → AreKeptIntervalsTight c.first (slice_set times p before)
