-- That the words of a copy are those that it has from their origins, also under an open block.
use Rattle.std.specs.Prelude.{ℕ, ◌≡◌, ◌⊎◌, ◌/◌, ◌%◌, ◌<◌, Some, List, length, slice_get}
use Rattle.journal.specs.declared.event.Event.{Event}
use Rattle.journal.specs.declared.event.Kind.{Kind}
use Rattle.journal.specs.declared.event.Kind.TheVariants.{Load, Store, Fetch}
use Rattle.journal.specs.Sizes.{Sizes}
use Rattle.journal.specs.Events.{EventAt, event_interval_at}
use Rattle.journal.specs.WellFormed.{Does}
use Rattle.journal.specs.Times.{ClosesAt}
use Rattle.journal.specs.PageImages.{FetchesPageImage, InGap}
use Rattle.journal.specs.OriginWrites.{OriginWritesBefore}
use Rattle.journal.specs.CopyAnswers.{IsCopyAnswer}

-- the event loads from page n, stores to it or fetches it
abbrev pub TouchesCopy : Sizes → ℕ → Kind → Type 0
TouchesCopy s n (Load a v) = a / s.words ≡ n
TouchesCopy s n (Store a v) = a / s.words ≡ n
TouchesCopy s n (Fetch w m r d) = m ≡ n
TouchesCopy s n _ = ⊥

-- p's gap of the page of a has q's store to a at place i, whose interval is closed at place c
pub record IsCopyOriginInGap (s : Sizes) (j : List Event) (p a q i c : ℕ) : Type 0 where
  pub value : ℕ
  pub does : Does j i q (Store a value)
  pub gap : InGap s j p (a / s.words) i
  pub closes : ClosesAt j q c
  pub interval : event_interval_at j q c ≡ event_interval_at j q i

-- of the gap's stores to a this one stores v, and a fetch applies it last
pub record IsLastCopyOriginInGap (s : Sizes) (j : List Event) (p a v : ℕ) : Type 0 where
  pub place : ℕ
  pub by : ℕ
  pub closed : ℕ
  pub stores : Does j place by (Store a v)
  pub gap : IsCopyOriginInGap s j p a by place closed
  pub last : (q i c : ℕ) → IsCopyOriginInGap s j p a q i c → ¬ OriginWritesBefore place closed i c

-- each word of the page is the one that p's copy has
pub record AreCopyOrigins (s : Sizes) (j : List Event) (p n : ℕ) (page : List ℕ) : Type 0 where
  pub each : (a v : ℕ) → a / s.words ≡ n → slice_get page (a % s.words) ≡ Some v → IsCopyAnswer s j p a (length j) v

-- each word of the page is the one that p's copy has after a fetch
pub record AreCopyOriginsFetched (s : Sizes) (j : List Event) (p n : ℕ) (page : List ℕ) : Type 0 where
  pub each : (a v : ℕ) → a / s.words ≡ n → slice_get page (a % s.words) ≡ Some v
      → IsLastCopyOriginInGap s j p a v
      ⊎ (IsCopyAnswer s j p a (length j) v × ((q i c : ℕ) → ¬ IsCopyOriginInGap s j p a q i c))

-- p's block fetches the page at place k alone, and leaves it alone before
pub record IsOnlyCopyOriginFetch (s : Sizes) (block : List Event) (p n k : ℕ) : Type 0 where
  pub fetches : FetchesPageImage block k p n
  pub first : (m : ℕ) (e : Event) → m < k → EventAt block m e → ¬ TouchesCopy s n e.kind
  pub only : (m : ℕ) → k < m → ¬ FetchesPageImage block m p n

-- the page below the block's stores is that before the block, or, if the block fetches it, that after a fetch
pub data AreOpenCopyOrigins (s : Sizes) (j block : List Event) (p n : ℕ) (base : List ℕ) : Type 0 where
  unfetched : AreCopyOrigins s j p n base → ((k : ℕ) → ¬ FetchesPageImage block k p n) → AreOpenCopyOrigins s j block p n base
  fetched : (k : ℕ) → IsOnlyCopyOriginFetch s block p n k → AreCopyOriginsFetched s j p n base → AreOpenCopyOrigins s j block p n base
