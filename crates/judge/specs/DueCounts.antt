-- What is kept of a history to tell what its fetches have to count.
use Rattle.std.specs.Prelude.{ℕ, ◌≡◌, ◌≢◌, ◌↔◌, ◌*◌, ◌/◌, ◌<◌, ◌≤◌, ◌^◌, cond, nat_lt, List, length, slice_index}
use Rattle.std.specs.Global.{Vec}
use Rattle.journal.specs.declared.event.Event.{Event}
use Rattle.journal.specs.declared.event.Kind.TheVariants.{Store}
use Rattle.journal.specs.BroughtCopy.{BroughtToCopy}
use Rattle.journal.specs.Events.{event_interval_at}
use Rattle.journal.specs.EventsInRange.{EventProcessorsInRange}
use Rattle.journal.specs.PageImages.{HasPageImageCount, StoredInGapOfPageImage}
use Rattle.journal.specs.Sizes.{Sizes}
use Rattle.journal.specs.WellFormed.{Does}
use Rattle.judge.specs.declared.due_counts.DueAmounts.{DueAmounts}
use Rattle.judge.specs.declared.due_counts.DueCounts.{DueCounts}
use Rattle.judge.specs.declared.sparse_table.SparseTable.{SparseTable}
use Rattle.judge.specs.Cuts.{AreCuts}
use Rattle.judge.specs.FetchGaps.{FetchGapStoreInPage, FetchGapStoreOfWord}
use Rattle.judge.specs.JudgedSizes.{judged_sizes_of}
use Rattle.judge.specs.SparseTables.{IsSparseFor, sparse_row}
use Rattle.judge.specs.StoredCounts.{AreStoredCountsOf, stored_row}
use Rattle.judge.specs.StoredSteps.{IsStoredLimit}

-- of each other processor's stores to page n, p's fetches of it have brought those before place t q, where an interval of q ends
pub record IsDueFetchedCut (s : Sizes) (j : List Event) (p n : ℕ) (t : ℕ → ℕ) : Type 0 where
  pub brought : (q i a v : ℕ) → q ≢ p → Does j i q (Store a v) → a / s.words ≡ n → BroughtToCopy j p n i ↔ (i < t q)
  pub limits : (q : ℕ) → q ≢ p → IsStoredLimit j q (t q)

-- the cut of each processor at its last fetch of each page is kept
pub record AreDueFetchedCuts (s : Sizes) (j : List Event) (fetched : SparseTable (Vec ℕ)) : Type 0 where
  pub cuts : (n p : ℕ) → p < s.processors
      → IsDueFetchedCut s j p n (slice_index (sparse_row fetched (stored_row s.processors n p)))
  pub sparse : IsSparseFor (s.pages * s.processors) (length j) fetched

-- what is kept tells this history so far
pub record TellsDueCounts (j : List Event) (d : DueCounts) : Type 0 where
  pub cuts : AreCuts j d.cuts
  pub present : d.cuts.present ≡ d.stored.sizes.processors
  pub processors : EventProcessorsInRange d.stored.sizes.processors j
  pub fetched : AreDueFetchedCuts (judged_sizes_of d.stored.sizes) j d.fetched
  pub stored : AreStoredCountsOf j d.stored

-- no more than that many processors can have
pub record AreDueAmountsFew (parts : ℕ) (x : DueAmounts) : Type 0 where
  pub writers : x.writers ≤ parts
  pub records : x.records ≤ parts * 2 ^ 32
  pub words : x.words ≤ parts * 2 ^ 32

-- what q stores in page n in its intervals that end after place `from`, but not after place `to`
pub record AreDueAmountsBetween (s : Sizes) (j : List Event) (n q from to : ℕ) (x : DueAmounts) : Type 0 where
  pub writers : x.writers ≡ cond (nat_lt 0 x.records) 1 0
  pub records : HasPageImageCount (λ (k : ℕ). FetchGapStoreInPage s j n q k × (event_interval_at j q from ≤ k) × (k < event_interval_at j q to)) x.records
  pub words : HasPageImageCount (λ (y : ℕ × ℕ). FetchGapStoreOfWord s j n q y × (event_interval_at j q from ≤ y.0) × (y.0 < event_interval_at j q to)) x.words

-- what a fetch of the page says of those of the gap's stores whose processor is among these
pub record DueAmountsAmong (s : Sizes) (j : List Event) (p n : ℕ) (among : ℕ → Type 0) (writers records words : ℕ) : Type 0
  where
    pub writers_are : HasPageImageCount (λ (q : ℕ). among q × ((k : ℕ) × (a : ℕ) × StoredInGapOfPageImage s j p n (q, k, a))) writers
    pub records_are : HasPageImageCount (λ (x : ℕ × ℕ). among x.0 × ((a : ℕ) × StoredInGapOfPageImage s j p n (x.0, x.1, a))) records
    pub words_are : HasPageImageCount (λ (x : ℕ × ℕ × ℕ). among x.0 × StoredInGapOfPageImage s j p n x) words
