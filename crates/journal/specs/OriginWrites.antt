-- Where the words of copies come from: a fetch brings the stores of its gap, and applies them in the order in which their
-- intervals were closed.
use Rattle.std.specs.Prelude.{ℕ, ◌≡◌, ◌⊎◌, ◌/◌, ◌<◌, List, take}
use Rattle.journal.specs.declared.event.Event.{Event}
use Rattle.journal.specs.declared.event.Kind.TheVariants.{Store}
use Rattle.journal.specs.Sizes.{Sizes}
use Rattle.journal.specs.Events.{event_interval_at}
use Rattle.journal.specs.WellFormed.{Does}
use Rattle.journal.specs.Times.{ClosesAt}
use Rattle.journal.specs.PageImages.{FetchesPageImage, InGap}

-- p's fetch at place m of the page of a brings q's store to a at place i, whose interval is closed at place c
pub record IsOriginWriteBrought (s : Sizes) (j : List Event) (p a m q i c : ℕ) : Type 0 where
  pub fetches : FetchesPageImage j m p (a / s.words)
  pub value : ℕ
  pub does : Does j i q (Store a value)
  pub gap : InGap s (take m j) p (a / s.words) i
  pub closes : ClosesAt j q c
  pub interval : event_interval_at j q c ≡ event_interval_at j q i

-- the store at place i, whose interval is closed at place c, is applied before that at place k, whose is closed at place d
abbrev pub OriginWritesBefore : ℕ → ℕ → ℕ → ℕ → Type 0
OriginWritesBefore i c k d = (c < d) ⊎ ((c ≡ d) × (i < k))

-- of the stores to a that p's fetch at place m brings, that at place i is applied last
pub record IsOriginWriteLastBrought (s : Sizes) (j : List Event) (p a m i : ℕ) : Type 0 where
  pub by : ℕ
  pub closed : ℕ
  pub brought : IsOriginWriteBrought s j p a m by i closed
  pub last : (q k d : ℕ) → IsOriginWriteBrought s j p a m q k d → ¬ OriginWritesBefore i closed k d

-- by its event at place m, p's copy has the word at a from the store at place i: from its own store, which that event is,
-- or from the last one that its fetch applies
abbrev pub OriginWritesWord : Sizes → List Event → ℕ → ℕ → ℕ → ℕ → Type 0
OriginWritesWord s j p a m i = ((i ≡ m) × ((v : ℕ) × Does j m p (Store a v))) ⊎ IsOriginWriteLastBrought s j p a m i

-- before place k, p's copy has the word at a from the store at place i, by its event at place m, and by none that comes later
pub record IsLatestOriginWrite (s : Sizes) (j : List Event) (p a k m i : ℕ) : Type 0 where
  pub before : m < k
  pub writes : OriginWritesWord s j p a m i
  pub last : (n l : ℕ) → m < n → n < k → ¬ OriginWritesWord s j p a n l

-- it has it from no store
abbrev pub HasNoOriginWrite : Sizes → List Event → ℕ → ℕ → ℕ → Type 0
HasNoOriginWrite s j p a k = (m i : ℕ) → m < k → ¬ OriginWritesWord s j p a m i
