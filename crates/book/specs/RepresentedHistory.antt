-- Everything in the book is what the history says.
use Rattle.std.specs.Prelude.{ℕ, ◌≡◌, ◌<◌, Some, List, slice_get}
use Rattle.journal.specs.declared.event.Event.{Event}
use Rattle.journal.specs.Sizes.{Sizes, addresses}
use Rattle.journal.specs.WellFormed.{WellFormed}
use Rattle.journal.specs.Pasts.{InPast}
use Rattle.interval.specs.KeptClosings.{kept_closings_between}
use Rattle.transit.specs.Letters.{Letter}
use Rattle.book.specs.BookStamps.{EachStampedAt, IsBookStamp, IsAwaitedByBookStamps}
use Rattle.book.specs.BookLockLines.{HasBookLockLine}
use Rattle.book.specs.BookMail.{IsBookMail}
use Rattle.book.specs.BookBarrier.{IsBookBarrier}
use Rattle.book.specs.BookFlags.{IsBookFlag}
use Rattle.book.specs.KeptIntervals.{AreKeptIntervals, KeepsUncoveredIntervals, AreKeptIntervalsTight}
use Rattle.journal.specs.Log.{Log, LogHoldsRestOfHistory}
use Rattle.book.specs.BookState.{BookState}

-- the book is one of a cluster of these sizes
pub record RepresentsSizes (s : Sizes) (b : BookState) : Type 0 where
  pub processors : b.journal.processors ≡ s.processors
  pub words : b.words ≡ s.words
  pub addresses : b.journal.addresses ≡ addresses s
  pub lockers : b.locks.processors ≡ s.processors

-- the journal holds what is left of this history after some of it was cut off
pub record HoldsRepresentedHistory (log : Log) (h : List Event) : Type 0 where
  pub taken : List Event
  pub rest : LogHoldsRestOfHistory log taken h

-- the book represents the history
pub record Represents (s : Sizes) (h : List Event) (b : BookState) : Type 0 where
  pub well_formed : WellFormed s h
  pub sizes : RepresentsSizes s b
  pub holds : HoldsRepresentedHistory b.journal h
  pub closed : AreKeptIntervals s h b.closed
  pub times : EachStampedAt s.processors (λ p t. IsBookStamp s.processors h (InPast h p) t) b.times
  pub locks : EachStampedAt s.locks (HasBookLockLine s.processors h) b.locks.locks
  pub barrier : IsBookBarrier s h b.barrier
  pub flags : EachStampedAt s.flags (IsBookFlag s.processors h) b.flags
  pub awaits : EachStampedAt s.processors (IsAwaitedByBookStamps h) b.awaits
  pub transit : EachStampedAt s.processors (IsBookMail s h) b.transit
  pub notices : (p : ℕ) (m : Letter) (t : List ℕ) → slice_get b.transit p ≡ Some (Some m)
      → slice_get b.times p ≡ Some t → m.notices ≡ kept_closings_between b.closed t m.time
  pub within : KeepsUncoveredIntervals b.closed.first b.times
  pub tight : 1 < s.processors → AreKeptIntervalsTight b.closed.first b.times

-- the book represents some history
pub record RepresentsSomeHistory (b : BookState) : Type 0 where
  pub sizes : Sizes
  pub history : List Event
  pub told : Represents sizes history b
