-- What the book's lock keeps.
use Rattle.std.specs.Prelude.{ℕ, ◌≡◌, ◌≢◌, ◌+◌, ◌*◌, ◌/◌, ◌≤◌, Some, List, [], ◌++◌, drop, length, slice_get, sum_by}
use Rattle.journal.specs.declared.event.Event.{Event}
use Rattle.journal.specs.Sizes.{Sizes}
use Rattle.journal.specs.Events.{EventAt}
use Rattle.journal.specs.ExplainedAnswers.{Explained}
use Rattle.journal.specs.FetchesCountGaps.{FetchesCountGaps}
use Rattle.journal.specs.CopyAnswers.{AnswersCopies}
use Rattle.journal.specs.Log.{Log}
use Rattle.base.specs.Limits.{most_events, most_in_block}
use Rattle.book.specs.BookState.{BookState}
use Rattle.book.specs.RepresentedHistory.{Represents}
use Rattle.cluster.specs.declared.keeper.View.{View}

-- a processor of a cluster of these sizes has seen this; that many of its events were cut off, and that many by it
abbrev pub view_having_seen : Sizes → List Event → ℕ → ℕ → View
view_having_seen s seen cut own_cut = record { shape = s; seen = seen; cut = cut; own_cut = own_cut }

-- and before its first call nothing
abbrev pub view_of_nothing : Sizes → View
view_of_nothing s = view_having_seen s [] 0 0

-- the sizes of the cluster whose book it is
abbrev pub view_book_sizes : BookState → Sizes
view_book_sizes b = record {
  processors = b.journal.processors;
  pages = b.journal.addresses / b.words;
  words = b.words;
  locks = length b.locks.locks;
  flags = length b.flags;
}

-- the history goes on from what p has seen, without p
pub record ExtendsView (s : Sizes) (h : List Event) (p : ℕ) (v : View) : Type 0 where
  pub shape : v.shape ≡ s
  pub rest : List Event
  pub begins : h ≡ v.seen ++ rest
  pub away : (k : ℕ) (e : Event) → EventAt rest k e → e.processor ≢ p

-- somebody has seen just this
abbrev pub IsSeenInViews : List View → List Event → Type 0
IsSeenInViews views h = (p : ℕ) × (v : View) × (slice_get views p ≡ Some v) × (v.seen ≡ h)

-- how many events all of them cut off
abbrev pub all_kept_views_cut : List View → ℕ
all_kept_views_cut views = sum_by (λ v. v.own_cut) views

-- the book represents the history, its loads are explained and answer copies, its fetches count their gaps, and it goes
-- on from what each processor has seen, who knows of no more cut off than was; somebody has seen all of it; and what
-- was cut off is what the processors' own cuts took
pub record KeptViewsInvariant (s : Sizes) (h : List Event) (b : BookState) (views : List View) : Type 0 where
  pub told : Represents s h b
  pub explained : Explained h
  pub counted : FetchesCountGaps s h
  pub copied : AnswersCopies s h
  pub few : length b.journal.events ≤ most_events
  pub all : length views ≡ s.processors
  pub each : (p : ℕ) (v : View) → slice_get views p ≡ Some v → ExtendsView s h p v
  pub behind : (p : ℕ) (v : View) → slice_get views p ≡ Some v → v.cut ≤ b.journal.base.cut
  pub cuts : all_kept_views_cut views ≡ b.journal.base.cut
  pub whole : IsSeenInViews views h
  pub owing : b.journal.room ≡ most_in_block * s.processors

-- some history is kept so
abbrev pub KeptWithViews : BookState → List View → Type 0
KeptWithViews b views = (s : Sizes) × (h : List Event) × KeptViewsInvariant s h b views

-- the events by which the new journal goes on from the old one
abbrev pub view_added : Log → Log → List Event
view_added old new = drop (length old.events) new.events

-- who found this book, with its view at place p, and leaves the new one, has seen a history that was kept there, and
-- the events that the new book has beyond it; and what is cut off now and wasn't, it cut off itself
pub record SeesKeptView (found left : BookState) (p : ℕ) (old new : View) : Type 0 where
  pub history : List Event
  pub views : List View
  pub at : slice_get views p ≡ Some old
  pub kept : KeptViewsInvariant old.shape history found views
  pub shape : new.shape ≡ old.shape
  pub seen : new.seen ≡ history ++ view_added found.journal left.journal
  pub cut : new.cut ≡ left.journal.base.cut
  pub own_cut : new.own_cut + found.journal.base.cut ≡ old.own_cut + left.journal.base.cut

-- p, with its view beside q's other one, has then seen the whole of a history that was kept with both
pub record SeesKeptViewBeside (p : ℕ) (old : View) (q : ℕ) (other new : View) : Type 0 where
  pub history : List Event
  pub book : BookState
  pub views : List View
  pub at : slice_get views p ≡ Some old
  pub beside : slice_get views q ≡ Some other
  pub kept : KeptViewsInvariant old.shape history book views
  pub new_is : new ≡ record old { seen = history }
