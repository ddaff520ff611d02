-- What a take does to its processor.
use Rattle.std.specs.Prelude.{ℕ, ◌≡◌, Option, Some, None, List, [], ◌∷◌, ◌≤◌, count_by, slice_get, slice_index}
use Rattle.journal.specs.declared.event.Event.{Event}
use Rattle.journal.specs.declared.event.Kind.{Kind}
use Rattle.journal.specs.DidEvent.{event}
use Rattle.journal.specs.Brings.{Brings}
use Rattle.journal.specs.MissingIntervals.{AreMissingIntervalsOfNotices}
use Rattle.journal.specs.WellFormed.{WellFormedAllows, Ready}
use Rattle.vtime.specs.TicksAndJoins.{join}
use Rattle.interval.specs.SentIntervals.{SentRecord}
use Rattle.interval.specs.KeptClosings.{is_kept_closing_of_page}
use Rattle.book.specs.PageNews.{news_of_page}
use Rattle.book.specs.BookStamps.{IsBookStamp}
use Rattle.book.specs.declared.refused.Refused.{Refused}
use Rattle.cluster.specs.Copies.PageReplica.{PageReplica}
use Rattle.cluster.specs.Copies.Local.{Local}
use Rattle.cluster.specs.Copies.AfterNews.{AreAfterNews, taken_after_news}
use Rattle.cluster.specs.ProcessorRefusals.{processor_refusal_or_spent, processor_refusal_of_take}
use Rattle.cluster.specs.ProcessorCalls.{IsProcessorCall}

-- what p waits for hasn't come, by what it has seen
abbrev pub IsTakingCallLate : Local → Type 0
IsTakingCallLate m = ¬ Ready m.sizes m.seen m.number

-- the event that ends p's wait
abbrev pub taking_call_added : ℕ → Option Kind → List Event
taking_call_added p None = []
taking_call_added p (Some k) = event p k ∷ []

-- p took what it waited for, which had come: it takes over the time of what that brings, and of each page the news, and
-- a copy with news is stale
pub record IsTakingCallDone (m n : Local) : Type 0 where
  pub kind : Kind
  pub waits : m.awaits ≡ Some kind
  pub allowed : WellFormedAllows m.sizes m.seen m.number kind
  pub time : List ℕ
  pub stamp : IsBookStamp m.sizes.processors m.seen (Brings m.seen m.number kind) time
  pub sent : List SentRecord
  pub news : (page : ℕ)
      → AreMissingIntervalsOfNotices m.sizes m.seen m.number page (slice_index m.time) (slice_index (join m.time time))
      (news_of_page page sent)
  pub told : AreAfterNews m.copies sent n.copies
  pub after : n ≡ taken_after_news m kind time n.copies

-- each copy has room for what these bring of its page
abbrev pub HasRoomForTakingCall : List SentRecord → List PageReplica → Type 0
HasRoomForTakingCall sent copies =
    (n : ℕ) (c : PageReplica) → slice_get copies n ≡ Some c → count_by (is_kept_closing_of_page n) sent ≤ c.room

-- a call that takes what is awaited
abbrev pub IsTakingCall : Local → Local → Option Refused → Type 0
IsTakingCall old new refused =
    IsProcessorCall (processor_refusal_or_spent (processor_refusal_of_take old) old) 1 IsTakingCallLate IsTakingCallDone (taking_call_added old.number old.awaits) old new refused
