-- Write notices: which stores an event tells its processor of.
use Rattle.std.specs.Prelude.{ℕ, ◌≡◌, ◌≢◌, ◌⊎◌, ◌<◌, ◌≤◌, ◌↔◌, List, slice_index}
use Rattle.base.specs.Limits.{most_processors}
use Rattle.base.specs.InOrderOnce.{Has, InOrder}
use Rattle.journal.specs.declared.event.Event.{Event}
use Rattle.journal.specs.Sizes.{Sizes}
use Rattle.judge.specs.FetchGaps.{FetchGapStoreInPage}
use Rattle.judge.specs.GapTally.{gap_tally_place_of}
use Rattle.causes.specs.Dues.{IsDueToldBy}
use Rattle.causes.specs.declared.span.Span.{Span}
use Rattle.causes.specs.declared.notices.WriteNotice.{WriteNotice}

-- by rising pages, for each page by rising writers, and for each of these by rising intervals
abbrev pub NoticesByPage : WriteNotice → WriteNotice → Type 0
NoticesByPage x y = (x.page < y.page)
    ⊎ ((x.page ≡ y.page) × ((x.writer < y.writer) ⊎ ((x.writer ≡ y.writer) × (x.interval < y.interval))))

-- these are all of which the event e at place k tells, in order
pub record AreNoticesAt (s : Sizes) (j : List Event) (k : ℕ) (e : Event) (notices : List WriteNotice) : Type 0 where
  pub has : (x : WriteNotice) → Has notices x ↔ IsDueToldBy s j k e.processor e.kind x.page x.writer x.interval
  pub order : InOrder NoticesByPage notices

-- the span has an interval in which q, who isn't its reader, stores in page n
abbrev pub HasNoticeOf : Sizes → List Event → Span → ℕ → ℕ → Type 0
HasNoticeOf s j span n q =
    (q ≢ span.reader) × ((m : ℕ) × FetchGapStoreInPage s j n q m × (slice_index span.from q ≤ m) × (m < slice_index span.to q))

-- the notice is of one of the span's pages and intervals, and of another processor than its reader
pub record IsNoticeInSpan (s : Sizes) (j : List Event) (span : Span) (x : WriteNotice) : Type 0 where
  pub low : x.writer < most_processors
  pub apart : x.writer ≢ span.reader
  pub from : span.first ≤ x.page
  pub to : x.page < span.end
  pub stored : FetchGapStoreInPage s j x.page x.writer x.interval
  pub least : slice_index span.from x.writer ≤ x.interval
  pub below : x.interval < slice_index span.to x.writer

-- the notice stands before interval m of this row
abbrev pub IsNoticeBelow : ℕ → ℕ → WriteNotice → Type 0
IsNoticeBelow row m x = (gap_tally_place_of x.page x.writer < row)
    ⊎ ((gap_tally_place_of x.page x.writer ≡ row) × (x.interval < m))

-- these are what there is in the span before interval m of this row, in order
pub record NoticesBelow (s : Sizes) (j : List Event) (span : Span) (row m : ℕ) (notices : List WriteNotice) : Type 0 where
  pub has : (x : WriteNotice) → Has notices x ↔ (IsNoticeInSpan s j span x × IsNoticeBelow row m x)
  pub order : InOrder (λ (x y : WriteNotice). IsNoticeBelow (gap_tally_place_of y.page y.writer) y.interval x) notices
