-- What a call that enters the book finds there, and what it may leave.
use Rattle.std.specs.Prelude.{ℕ, ◌≡◌, ◌≢◌, ◌+◌, ◌<◌, ◌≤◌, Some, List, ◌++◌, length, slice_get}
use Rattle.journal.specs.declared.event.Event.{Event}
use Rattle.journal.specs.Events.{EventAt}
use Rattle.journal.specs.ExplainedAnswers.{Explained}
use Rattle.journal.specs.FetchesCountGaps.{FetchesCountGaps}
use Rattle.journal.specs.CopyAnswers.{AnswersCopies}
use Rattle.base.specs.Limits.{most_events}
use Rattle.turn.specs.Chairs.{lock, chair_place, chair_view, entries, IsSameChair, IsChairInside, IsChairOutside, ChairStands}
use Rattle.turn.specs.declared.chair.Held.{Held}
use Rattle.turn.specs.declared.chair.ChairToken.{ChairToken}
use Rattle.book.specs.BookState.{BookState}
use Rattle.book.specs.RepresentedHistory.{Represents}
use Rattle.cluster.specs.Copies.Local.{Local}
use Rattle.cluster.specs.Copies.AfterNews.{found_after_news}
use Rattle.cluster.specs.declared.keeper.View.{View}
use Rattle.cluster.specs.KeptViews.{KeptViewsInvariant, KeptWithViews, SeesKeptView, view_added, view_having_seen}

-- p finds this book: a history of it that is kept goes on from what p has seen
pub record FindsOnEntering (m : Local) (b : BookState) : Type 0 where
  pub rest : List Event
  pub views : List View
  pub away : (k : ℕ) (e : Event) → EventAt rest k e → e.processor ≢ m.number
  pub at : slice_get views m.number ≡ Some (view_having_seen m.sizes m.seen m.cut m.own_cut)
  pub kept : KeptViewsInvariant m.sizes (m.seen ++ rest) b views

-- and leaves the new book, which its events make of the old one, with that many more events cut off
pub record IsEnteringCallOf (m : Local) (old : BookState) (es : List Event) (new : BookState) : Type 0 where
  pub mine : (k : ℕ) (e : Event) → EventAt es k e → e.processor ≡ m.number
  pub adds : view_added old.journal new.journal ≡ es
  pub room : new.journal.room ≡ old.journal.room
  pub told : (f : FindsOnEntering m old) → Represents m.sizes ((m.seen ++ f.rest) ++ es) new
  pub explained : (f : FindsOnEntering m old) → Explained ((m.seen ++ f.rest) ++ es)
  pub counted : (f : FindsOnEntering m old) → FetchesCountGaps m.sizes ((m.seen ++ f.rest) ++ es)
  pub copied : (f : FindsOnEntering m old) → AnswersCopies m.sizes ((m.seen ++ f.rest) ++ es)
  pub few : (f : FindsOnEntering m old) → length new.journal.events ≤ most_events
  pub taken : ℕ
  pub cuts : new.journal.base.cut ≡ old.journal.base.cut + taken

-- the chair is that of processor m
pub record IsEnteringChairOf (m : Local) (c : ChairToken BookState View) : Type 0 where
  pub place_is : chair_place c ≡ m.number
  pub view_is : chair_view c ≡ view_having_seen m.sizes m.seen m.cut m.own_cut

-- the chair has entered once more, and is inside with the book
pub record HasEntered (old new : ChairToken BookState View) (held : Held) (b : BookState) : Type 0 where
  pub some_left : entries old < (lock old).limit
  pub once_more : entries new ≡ entries old + 1
  pub same : IsSameChair old new
  pub view_is : chair_view new ≡ chair_view old
  pub inside : IsChairInside new held b

-- the chair is outside again, gave this book back, and has seen what was left there
pub record HasEnteredAndLeft (old new : ChairToken BookState View) (held : Held) (b : BookState) : Type 0 where
  pub same : IsSameChair old new
  pub entries_are : entries new ≡ entries old
  pub outside : IsChairOutside new
  pub seen : (found_after_news : BookState) → IsChairInside old held found_after_news → SeesKeptView found_after_news b (chair_place old) (chair_view old) (chair_view new)

-- the lock keeps this book, with the chair's view at its place
abbrev pub FindsBookOnEntering : ChairToken BookState View → BookState → Type 0
FindsBookOnEntering c b = ChairStands KeptWithViews b (chair_place c) (chair_view c)

-- the processor after it entered, others' events had come, and that many were cut off
abbrev pub entered : Local → List Event → ℕ → Local
entered m rest cut = record (found_after_news m rest) { entries = m.entries + 1; cut = cut }

-- the call entered, and did this
pub record EnteredAndDid (done : Local → Local → Type 0) (old new : Local) : Type 0 where
  pub rest : List Event
  pub away : (k : ℕ) (e : Event) → EventAt rest k e → e.processor ≢ old.number
  pub cut : ℕ
  pub more : old.cut ≤ cut
  pub after : done (entered old rest cut) new
