-- What is kept of a history to tell what copies of pages lack.
use Rattle.std.specs.Prelude.{ℕ, ◌≡◌, ◌≢◌, ◌*◌, ◌/◌, ◌<◌, ◌≤◌, ◌↔◌, Option, Some, None, List, length, replicate, slice_index, vec_len}
use Rattle.journal.specs.declared.event.Event.{Event}
use Rattle.journal.specs.declared.event.Kind.TheVariants.{Store}
use Rattle.journal.specs.Sizes.{Sizes}
use Rattle.journal.specs.Events.{event_count, event_interval_at, event_closes}
use Rattle.journal.specs.WellFormed.{Does}
use Rattle.journal.specs.EventsInRange.{EventProcessorsInRange}
use Rattle.journal.specs.Clocks.{AreClocks}
use Rattle.journal.specs.BroughtCopy.{BroughtToCopy}
use Rattle.judge.specs.declared.gaps.Gaps.{Gaps}
use Rattle.judge.specs.JudgedSizes.{AreJudgedSizes, judged_sizes_of}
use Rattle.judge.specs.GapTally.{IsGapTallyOfValues, IsGapTallyFor, gap_tally_place_of}
use Rattle.judge.specs.SparseTables.{IsSparse, sparse_at, sparse_room}
use Rattle.judge.specs.declared.sparse_table.SparseTable.{SparseTable}

-- q stores at address a in its interval k
abbrev pub FetchGapStoreAt : List Event → ℕ → ℕ → ℕ → Type 0
FetchGapStoreAt j a q k = (i : ℕ) × (v : ℕ) × Does j i q (Store a v) × (event_interval_at j q i ≡ k)

-- q stores in page n in its interval x.0, at address x.1
abbrev pub FetchGapStoreOfWord : Sizes → List Event → ℕ → ℕ → ℕ × ℕ → Type 0
FetchGapStoreOfWord s j n q x = FetchGapStoreAt j x.1 q x.0 × (x.1 / s.words ≡ n)

-- q stores in page n in its interval k
abbrev pub FetchGapStoreInPage : Sizes → List Event → ℕ → ℕ → ℕ → Type 0
FetchGapStoreInPage s j n q k = (a : ℕ) × FetchGapStoreOfWord s j n q (k, a)

-- of each other processor's stores to page n, p's fetches of it have brought those of the first m q intervals
pub record FetchGapBroughtUpTo (s : Sizes) (j : List Event) (p n : ℕ) (m : ℕ → ℕ) : Type 0 where
  pub brought : (q i a v : ℕ) → q ≢ p → Does j i q (Store a v) → a / s.words ≡ n
      → BroughtToCopy j p n i ↔ (event_interval_at j q i < m q)
  pub within : (q : ℕ) → m q ≤ event_count event_closes j q

-- a timestamp that is kept, zeros where none is
abbrev pub fetch_gap_clock : Option (List ℕ) → List ℕ
fetch_gap_clock None = replicate 16 0
fetch_gap_clock (Some time) = time

-- the timestamp of a processor at its last fetch of a page, as it is kept in their row
abbrev pub fetch_gap_time : SparseTable (List ℕ) → ℕ → ℕ → ℕ
fetch_gap_time fetched row q = slice_index (fetch_gap_clock (sparse_at fetched row)) q

-- what is kept is the history's
pub record AreFetchGapsOf (j : List Event) (g : Gaps) : Type 0 where
  pub fetched : (n p : ℕ) → p < 16 → FetchGapBroughtUpTo (judged_sizes_of g.sizes) j p n (fetch_gap_time g.fetched (gap_tally_place_of n p))
  pub intervals : IsGapTallyOfValues (FetchGapStoreInPage (judged_sizes_of g.sizes) j) (λ k. k) (FetchGapStoreInPage (judged_sizes_of g.sizes) j) (length j)
      g.intervals
  pub few : vec_len g.fetched.kept ≤ length j

-- there is room for a row for each page and processor
pub record AreFetchGapsLong (g : Gaps) : Type 0 where
  pub sizes : AreJudgedSizes (judged_sizes_of g.sizes)
  pub fetched : IsSparse g.fetched
  pub fetched_room : g.sizes.pages * 16 ≤ sparse_room g.fetched
  pub intervals : IsGapTallyFor (g.sizes.pages * 16) (g.sizes.pages * 16) g.intervals

-- the gaps tell this history so far
pub record TellsFetchGaps (j : List Event) (g : Gaps) : Type 0 where
  pub clocks : AreClocks j g.clocks
  pub present : g.clocks.present ≡ g.sizes.processors
  pub processors : EventProcessorsInRange g.sizes.processors j
  pub long : AreFetchGapsLong g
  pub are : AreFetchGapsOf j g
