-- Who waits, and whether what it waits for has come.
use Rattle.std.specs.Prelude.{ℕ, ◌≡◌, ◌≢◌, ◌<◌, true, Some, List, ◌++◌, slice_get}
use Rattle.journal.specs.declared.event.Event.{Event}
use Rattle.journal.specs.declared.event.Kind.{Kind}
use Rattle.journal.specs.declared.event.Kind.TheVariants.{Acquire, Release, Arrive, Depart, Set, Await}
use Rattle.journal.specs.DidEvent.{did}
use Rattle.journal.specs.Sizes.{Sizes}
use Rattle.journal.specs.Events.{event_closes}
use Rattle.journal.specs.WellFormed.{Ready}
use Rattle.base.specs.Limits.{most_processors}
use Rattle.lockq.specs.LockQueues.{lock_queue_at}
use Rattle.book.specs.BookState.{BookState}
use Rattle.book.specs.Messages.{message_has_come}
use Rattle.book.specs.RepresentedHistory.{Represents}

-- p waits for this, which has come
pub record IsBookWaitDone (b : BookState) (k : Kind) (p : ℕ) : Type 0 where
  pub waits : slice_get b.awaits p ≡ Some (Some k)
  pub come : message_has_come b.flags b.transit p k ≡ true

-- the book represents some history that ends with this closing event of p
pub record HasClosedBeforeBookWaits (b : BookState) (p : ℕ) (k : Kind) : Type 0 where
  pub sizes : Sizes
  pub history : List Event
  pub told : Represents sizes (did history p k) b
  pub closes : event_closes k ≡ true

-- after this event of p the book names q: who holds the released lock next, who waits for the departure if p may
-- depart, and who waits for the flag that was set
abbrev pub IsNamedByBookWaits : BookState → ℕ → Kind → ℕ → Type 0
IsNamedByBookWaits b p (Release l) q = ((lock_queue_at b.locks l).holder ≡ Some q) × (q < most_processors) × IsBookWaitDone b (Acquire l) q
IsNamedByBookWaits b p Arrive q = (message_has_come b.flags b.transit p Depart ≡ true) × (q < most_processors) × IsBookWaitDone b Depart q
IsNamedByBookWaits b p (Set f) q = (q < most_processors) × IsBookWaitDone b (Await f) q
IsNamedByBookWaits b p _ q = ⊥

-- p's block and the event after it let q go on, another processor, who couldn't before
pub record LetsBookWaitEnd (s : Sizes) (h block : List Event) (p : ℕ) (k : Kind) (q : ℕ) : Type 0 where
  pub other : q ≢ p
  pub few : q < most_processors
  pub before : ¬ Ready s h q
  pub after : Ready s (did (h ++ block) p k) q
