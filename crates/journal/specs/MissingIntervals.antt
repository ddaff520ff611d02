-- What a stale copy of a page misses, by intervals.
use Rattle.std.specs.Prelude.{ℕ, ◌≡◌, ◌≢◌, ◌<◌, ◌≤◌, ◌↔◌, count_by, take, List}
use Rattle.journal.specs.declared.event.Event.{Event}
use Rattle.base.specs.InOrderOnce.{Has, InOrder}
use Rattle.journal.specs.Sizes.{Sizes}
use Rattle.journal.specs.Events.{event_closes, event_interval_at}
use Rattle.journal.specs.Times.{ClosesAt}
use Rattle.journal.specs.PageImages.{StoredInGapOfPageImage}
use Rattle.journal.specs.IntervalContents.{IntervalContentHas, IsIntervalContent}

-- how many intervals are closed, of all processors
abbrev pub missing_interval_closed_count : List Event → ℕ
missing_interval_closed_count j = count_by (λ (e : Event). event_closes e.kind) j

-- q's interval k is closed after `place` other intervals
pub record IsMissingIntervalPlace (j : List Event) (q k place : ℕ) : Type 0 where
  pub at : ℕ
  pub closes : ClosesAt j q at
  pub number : event_interval_at j q at ≡ k
  pub before : missing_interval_closed_count (take at j) ≡ place

-- what the owner's interval with this number, which is closed at this place in the closing order, comes to in a page
pub record MissingInterval : Type 0 where
  pub owner : ℕ
  pub number : ℕ
  pub place : ℕ
  pub words : List (ℕ × ℕ)

-- the intervals stand in closing order
abbrev pub MissingIntervalsInOrder : List MissingInterval → Type 0
MissingIntervalsInOrder missing = InOrder (λ (x y : MissingInterval). x.place < y.place) missing

-- these are the intervals that store in the gap, with what they come to
pub record AreMissingIntervals (s : Sizes) (j : List Event) (p n : ℕ) (missing : List MissingInterval) : Type 0 where
  pub each : (q k : ℕ)
      → ((x : MissingInterval) × Has missing x × (x.owner ≡ q) × (x.number ≡ k)) ↔ ((a : ℕ) × StoredInGapOfPageImage s j p n (q, k, a))
  pub placed : (x : MissingInterval) → Has missing x → IsMissingIntervalPlace j x.owner x.number x.place
  pub contents : (x : MissingInterval) → Has missing x → IsIntervalContent s j x.owner x.number n x.words

-- these are others' intervals that store in the page and that the time t' counts and t doesn't
pub record AreMissingIntervalsOfNotices (s : Sizes) (j : List Event) (p n : ℕ) (t t' : ℕ → ℕ) (new : List MissingInterval) : Type 0 where
  pub each : (q m : ℕ)
      → ((x : MissingInterval) × Has new x × (x.owner ≡ q) × (x.number ≡ m))
      ↔ ((i : ℕ) × IntervalContentHas s j q m n i × (q ≢ p) × (t q ≤ m) × (m < t' q))
  pub placed : (x : MissingInterval) → Has new x → IsMissingIntervalPlace j x.owner x.number x.place
  pub contents : (x : MissingInterval) → Has new x → IsIntervalContent s j x.owner x.number n x.words
