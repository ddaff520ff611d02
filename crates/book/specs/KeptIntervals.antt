-- What the closed intervals are by the history.
use Rattle.std.specs.Prelude.{ℕ, ◌≡◌, ◌≢◌, ◌<◌, ◌≤◌, List, [], length, slice_get, slice_index, Some}
use Rattle.journal.specs.declared.event.Event.{Event}
use Rattle.base.specs.InOrderOnce.{Has, InOrder}
use Rattle.journal.specs.Sizes.{Sizes}
use Rattle.journal.specs.Events.{event_count, event_interval_at, event_closes}
use Rattle.journal.specs.Times.{ClosesAt}
use Rattle.journal.specs.IntervalContents.{IntervalContentHas, IsIntervalContent}
use Rattle.journal.specs.MissingIntervals.{missing_interval_closed_count, IsMissingIntervalPlace}
use Rattle.page.specs.PageChanges.{PageChanges}
use Rattle.interval.specs.declared.interval.KeptInterval.{KeptInterval}
use Rattle.interval.specs.SentIntervals.{SentIntervalPagesRise}
use Rattle.interval.specs.KeptClosings.{KeptClosings}

-- the records are what the owner's stores of the interval come to: one for each page that they go to, by rising page
pub record AreIntervalContents (s : Sizes) (h : List Event) (owner number : ℕ) (records : List PageChanges) : Type 0 where
  pub each : (r : PageChanges) → Has records r → IsIntervalContent s h owner number r.page r.words
  pub some : (r : PageChanges) → Has records r → r.words ≢ []
  pub all : (n i : ℕ) → IntervalContentHas s h owner number n i → (r : PageChanges) × Has records r × (r.page ≡ n)
  pub rising : SentIntervalPagesRise records

-- no kept interval has a number below its owner's first
abbrev pub AreKeptIntervalsFromFirst : KeptClosings → Type 0
AreKeptIntervalsFromFirst c = (k : KeptInterval) → Has c.kept k → slice_index c.first k.interval.owner ≤ k.interval.number

-- the intervals closed so far, except for each owner's first ones, are kept in closing order
pub record AreKeptIntervals (s : Sizes) (h : List Event) (c : KeptClosings) : Type 0 where
  pub count : c.pushed ≡ missing_interval_closed_count h
  pub next_long : length c.next ≡ s.processors
  pub next : (q : ℕ) → q < s.processors → slice_index c.next q ≡ event_count event_closes h q
  pub first_long : length c.first ≡ s.processors
  pub from : AreKeptIntervalsFromFirst c
  pub each : (k : KeptInterval) → Has c.kept k → IsMissingIntervalPlace h k.interval.owner k.interval.number k.place
  pub all : (q i : ℕ) → ClosesAt h q i → slice_index c.first q ≤ event_interval_at h q i
      → (k : KeptInterval) × Has c.kept k × (k.interval.owner ≡ q) × (k.interval.number ≡ event_interval_at h q i)
  pub contents : (k : KeptInterval) → Has c.kept k → AreIntervalContents s h k.interval.owner k.interval.number k.interval.records
  pub rising : InOrder (λ (j k : KeptInterval). j.place < k.place) c.kept

-- no interval is dropped that some processor's timestamp doesn't cover
abbrev pub KeepsUncoveredIntervals : List ℕ → List (List ℕ) → Type 0
KeepsUncoveredIntervals first times = (p q : ℕ) (t : List ℕ) → slice_get times p ≡ Some t → slice_index first q ≤ slice_index t q

-- of each owner, someone's timestamp covers no more than what is dropped
abbrev pub AreKeptIntervalsTight : List ℕ → List (List ℕ) → Type 0
AreKeptIntervalsTight first times = (q : ℕ) → q < length first
    → (r : ℕ) × (t : List ℕ) × (slice_get times r ≡ Some t) × (slice_index t q ≤ slice_index first q)
