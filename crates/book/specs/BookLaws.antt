-- The laws of the transitions: a book that represents a history represents, after the transition, the history with
-- the block and the event after it.
use Rattle.std.specs.Prelude.{ℕ, ◌≡◌, ◌<◌, Some, List, [], ◌++◌, slice_get, slice_index}
use Rattle.journal.specs.declared.event.Event.{Event}
use Rattle.journal.specs.declared.event.Kind.{Kind}
use Rattle.journal.specs.declared.event.Kind.TheVariants.{Ask, Release, Arrive, Set, Watch}
use Rattle.journal.specs.Sizes.{Sizes}
use Rattle.journal.specs.Events.{event_count, event_closes}
use Rattle.journal.specs.WellFormed.{Holds, WellFormedAllows}
use Rattle.journal.specs.Brings.{Brings}
use Rattle.journal.specs.MissingIntervals.{MissingIntervalsInOrder, AreMissingIntervalsOfNotices}
use Rattle.vtime.specs.TicksAndJoins.{join}
use Rattle.interval.specs.KeptClosings.{kept_closings_between}
use Rattle.page.specs.PageChanges.{PageChanges}
use Rattle.transit.specs.Letters.{Letter}
use Rattle.journal.specs.DidEvent.{did}
use Rattle.book.specs.Messages.{message_for}
use Rattle.book.specs.KeptIntervals.{AreIntervalContents}
use Rattle.book.specs.BookState.{BookState, book_state_time_of}
use Rattle.book.specs.BookStamps.{IsBookStamp}
use Rattle.book.specs.PageNews.{news_of_page}
use Rattle.book.specs.Transitions.{transition_new_book, transition_handed_in, transition_handed_last, transition_asked, transition_released, transition_arrived, transition_set, transition_watched, transition_taken}
use Rattle.book.specs.BookCut.{WasBookCut}
use Rattle.book.specs.AllowedCalls.{AllowsIdleBlockCall, AllowsBlockCall}
use Rattle.book.specs.RepresentedHistory.{Represents}

-- the records are those of p's open interval
abbrev pub AreOpenRecordsOfBookLaw : Sizes → List Event → ℕ → List PageChanges → Type 0
AreOpenRecordsOfBookLaw s h p records = AreIntervalContents s h p (event_count event_closes h p) records

-- an empty book represents the empty history
abbrev pub NewBookLaw : Type 0
NewBookLaw = (s : Sizes) → 0 < s.processors → Represents s [] (transition_new_book s)

-- a block that is handed in, also by a processor that waits, if it is empty
abbrev pub BookBlockLaw : Type 0
BookBlockLaw = (s : Sizes) (h block : List Event) (b : BookState) (p : ℕ) → Represents s h b → AllowsBlockCall s b p block
    → Represents s (h ++ block) (transition_handed_in b block)

-- a last block
abbrev pub BookLastBlockLaw : Type 0
BookLastBlockLaw = (s : Sizes) (h block : List Event) (b : BookState) (p : ℕ) → Represents s h b → AllowsBlockCall s b p block
    → Represents s (h ++ block) (transition_handed_last b block)

-- an ask of a lock that p doesn't hold
abbrev pub BookAskLaw : Type 0
BookAskLaw = (s : Sizes) (h block : List Event) (b : BookState) (p l : ℕ) (records : List PageChanges) → Represents s h b
    → AllowsIdleBlockCall s b p block → AreOpenRecordsOfBookLaw s (h ++ block) p records → l < s.locks → ¬ Holds h p l
    → Represents s (did (h ++ block) p (Ask l)) (transition_asked (transition_handed_in b block) p l records)

-- a release of a lock that p holds
abbrev pub BookReleaseLaw : Type 0
BookReleaseLaw = (s : Sizes) (h block : List Event) (b : BookState) (p l : ℕ) (records : List PageChanges) → Represents s h b
    → AllowsIdleBlockCall s b p block → AreOpenRecordsOfBookLaw s (h ++ block) p records → l < s.locks → Holds h p l
    → Represents s (did (h ++ block) p (Release l)) (transition_released (transition_handed_in b block) p l records)

-- an arrival
abbrev pub BookArriveLaw : Type 0
BookArriveLaw = (s : Sizes) (h block : List Event) (b : BookState) (p : ℕ) (records : List PageChanges) → Represents s h b
    → AllowsIdleBlockCall s b p block → AreOpenRecordsOfBookLaw s (h ++ block) p records
    → Represents s (did (h ++ block) p Arrive) (transition_arrived (transition_handed_in b block) p records)

-- a set of a flag
abbrev pub BookSetLaw : Type 0
BookSetLaw = (s : Sizes) (h block : List Event) (b : BookState) (p f : ℕ) (records : List PageChanges) → Represents s h b
    → AllowsIdleBlockCall s b p block → AreOpenRecordsOfBookLaw s (h ++ block) p records → f < s.flags
    → Represents s (did (h ++ block) p (Set f)) (transition_set (transition_handed_in b block) p f records)

-- a watch of a flag
abbrev pub BookWatchLaw : Type 0
BookWatchLaw = (s : Sizes) (h block : List Event) (b : BookState) (p f : ℕ) (records : List PageChanges) → Represents s h b
    → AllowsIdleBlockCall s b p block → AreOpenRecordsOfBookLaw s (h ++ block) p records → f < s.flags
    → Represents s (did (h ++ block) p (Watch f)) (transition_watched (transition_handed_in b block) p f records)

-- p's message lets p do what it waits for, has the time of what that brings, and what p lacks of it
pub record IsBookLawMessage (s : Sizes) (h : List Event) (b : BookState) (p : ℕ) (k : Kind) (m : Letter) : Type 0 where
  pub allowed : WellFormedAllows s h p k
  pub time : IsBookStamp s.processors h (Brings h p k) m.time
  pub notices : m.notices ≡ kept_closings_between b.closed (book_state_time_of b p) m.time

-- what has come for a processor that waits
abbrev pub BookMessageLaw : Type 0
BookMessageLaw = (s : Sizes) (h : List Event) (b : BookState) (p : ℕ) (k : Kind) (m : Letter) → Represents s h b
    → slice_get b.awaits p ≡ Some (Some k) → message_for b p k ≡ Some m
    → IsBookLawMessage s h b p k m

-- a take of a grant, a departure or a flag's signal, with the trim after it
abbrev pub BookTakeLaw : Type 0
BookTakeLaw = (s : Sizes) (h : List Event) (b : BookState) (p : ℕ) (k : Kind) (m : Letter) → Represents s h b
    → slice_get b.awaits p ≡ Some (Some k) → message_for b p k ≡ Some m
    → Represents s (did h p k) (transition_taken b p k m)

-- a cut, after which the book represents the same history
abbrev pub BookCutLaw : Type 0
BookCutLaw = (s : Sizes) (h : List Event) (old new : BookState) → Represents s h old → WasBookCut old new → Represents s h new

-- what a taking brings of page n is news of it
abbrev pub BookNewsLaw : Type 0
BookNewsLaw = (s : Sizes) (h : List Event) (b : BookState) (p n : ℕ) (k : Kind) (u : List ℕ) → Represents s h b
    → p < s.processors → IsBookStamp s.processors h (Brings h p k) u
    → AreMissingIntervalsOfNotices s h p n (slice_index (book_state_time_of b p)) (slice_index (join (book_state_time_of b p) u))
    (news_of_page n (kept_closings_between b.closed (book_state_time_of b p) u))

-- what lies between two timestamps is in closing order
abbrev pub BookNewsOrderLaw : Type 0
BookNewsOrderLaw = (s : Sizes) (h : List Event) (b : BookState) (n : ℕ) (old new : List ℕ) → Represents s h b
    → MissingIntervalsInOrder (news_of_page n (kept_closings_between b.closed old new))
