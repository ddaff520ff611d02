-- What is found on the way to the origins of words.
use Rattle.std.specs.Prelude.{ℕ, ◌≡◌, ◌⊎◌, ◌+◌, ◌*◌, ◌<◌, ◌≤◌, List, Option, Some, None, MatchOption, length, slice_get, slice_index, take}
use Rattle.base.specs.Limits.{most_processors}
use Rattle.journal.specs.declared.event.Event.{Event}
use Rattle.journal.specs.PageImages.{FetchesPageImage}
use Rattle.journal.specs.EventsInRange.{EventProcessorsInRange}
use Rattle.journal.specs.Sizes.{Sizes}
use Rattle.journal.specs.Times.{IsTimeOf}
use Rattle.judge.specs.FetchGaps.{FetchGapBroughtUpTo}
use Rattle.judge.specs.JudgedSizes.{judged_sizes_most_addresses}
use Rattle.judge.specs.GapTally.{gap_tally_place_of}
use Rattle.causes.specs.declared.brought.Applied.{Applied}
use Rattle.causes.specs.declared.brought.LookedUp.{LookedUp}
use Rattle.causes.specs.declared.origin.WordOrigin.{WordOrigin}
use Rattle.causes.specs.declared.brought.PageFetch.{PageFetch}
use Rattle.causes.specs.Index.{IsIndex}
use Rattle.journal.specs.OriginWrites.{OriginWritesBefore, IsOriginWriteBrought}
use Rattle.causes.specs.Origins.{IsOriginIfAny}
use Rattle.causes.specs.NumberedStores.{AreNumberedStoreRows}

-- what is looked up is the history's
pub record IsFetchedOriginLookup (j : List Event) (x : LookedUp) : Type 0 where
  pub index : IsIndex j x.index
  pub stores : AreNumberedStoreRows j (length j) x.stores
  pub processors : EventProcessorsInRange most_processors j
  pub few : x.stores.addresses ≤ judged_sizes_most_addresses

-- the fetch stands at its place, and what it brings lies between its timestamps
pub record IsFetchedOriginFetch (s : Sizes) (j : List Event) (x : PageFetch) : Type 0 where
  pub within : x.place ≤ length j
  pub fetches : FetchesPageImage j x.place x.reader x.page
  pub from : FetchGapBroughtUpTo s (take x.place j) x.reader x.page (slice_index x.from)
  pub to : IsTimeOf (take x.place j) x.reader (slice_index x.to)

-- of the stores to a of these processors that p's fetch at place m brings, this one is applied last
pub record IsFetchedOriginLastApplied (s : Sizes) (j : List Event) (p a m : ℕ) (among : ℕ → Type 0) (x : Applied) : Type 0 where
  pub by : ℕ
  pub one : among by
  pub brought : IsOriginWriteBrought s j p a m by x.store x.closed
  pub last : (q i c : ℕ) → among q → IsOriginWriteBrought s j p a m q i c → ¬ OriginWritesBefore x.store x.closed i c

-- where it brings one
abbrev pub FetchedOriginLastApplied : Sizes → List Event → ℕ → ℕ → ℕ → (ℕ → Type 0) → Option Applied → Type 0
FetchedOriginLastApplied s j p a m among o =
    MatchOption o ((q i c : ℕ) → among q → ¬ IsOriginWriteBrought s j p a m q i c) (IsFetchedOriginLastApplied s j p a m among)

-- r is that of two which is applied later
abbrev pub IsFetchedOriginLaterApplied : Option Applied → Option Applied → Option Applied → Type 0
IsFetchedOriginLaterApplied None two r = r ≡ two
IsFetchedOriginLaterApplied (Some x) None r = r ≡ Some x
IsFetchedOriginLaterApplied (Some x) (Some y) r =
    ((r ≡ Some x) × (¬ OriginWritesBefore x.store x.closed y.store y.closed))
    ⊎ ((r ≡ Some y) × OriginWritesBefore x.store x.closed y.store y.closed)

-- so r comes after o by a fetch at place m that brings this
abbrev pub IsFetchedOriginAfter : Option WordOrigin → ℕ → Option Applied → Option WordOrigin → Type 0
IsFetchedOriginAfter o m None r = r ≡ o
IsFetchedOriginAfter o m (Some x) r = r ≡ Some (record { store = x.store; write = m })

-- these are the origins of each address in each of sixteen processors' copies before place k
pub record AreOriginsBefore (s : Sizes) (j : List Event) (k : ℕ) (words : List (Option WordOrigin)) : Type 0 where
  pub long : length words ≡ (s.pages * s.words) * most_processors
  pub each : (a q : ℕ) (o : Option WordOrigin) → q < most_processors → slice_get words (gap_tally_place_of a q) ≡ Some o
      → IsOriginIfAny s j q a k o

-- p's words of the addresses from `from` on and below `to` are those after place k, all others those before it
pub record AreOriginsPartFetched (s : Sizes) (j : List Event) (k p from to : ℕ) (words : List (Option WordOrigin)) : Type 0 where
  pub long : length words ≡ (s.pages * s.words) * most_processors
  pub fetched : (a : ℕ) (o : Option WordOrigin) → from ≤ a → a < to → slice_get words (gap_tally_place_of a p) ≡ Some o
      → IsOriginIfAny s j p a (k + 1) o
  pub others : (a q : ℕ) (o : Option WordOrigin) → q < most_processors → (q ≡ p → from ≤ a → a < to → ⊥)
      → slice_get words (gap_tally_place_of a q) ≡ Some o → IsOriginIfAny s j q a k o
