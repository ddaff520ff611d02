-- The records of a closed interval.
use Rattle.std.specs.Prelude.{ℕ, ◌≡◌, ◌+◌, ◌*◌, ◌<◌, ◌≤◌, ◌↔◌, List, length}
use Rattle.base.specs.InOrderOnce.{Has, InOrder}
use Rattle.journal.specs.declared.event.Event.{Event}
use Rattle.journal.specs.declared.event.Kind.TheVariants.{Store}
use Rattle.journal.specs.IntervalContents.{IsIntervalContent, IntervalContentHas}
use Rattle.journal.specs.Events.{event_interval_at}
use Rattle.journal.specs.Sizes.{Sizes}
use Rattle.journal.specs.WellFormed.{Does}
use Rattle.causes.specs.NumberedStores.{AreNumberedStoreRows}
use Rattle.causes.specs.TakingEvents.{AreTakingEventNumbers}
use Rattle.causes.specs.declared.closed_records.PageRecord.{PageRecord}
use Rattle.causes.specs.declared.closed_records.ClosedRecordIndex.{ClosedRecordIndex}

-- these are the records of q's interval m, by rising pages: each page that it stores in, with what that comes to
pub record AreClosedRecords (s : Sizes) (j : List Event) (q m : ℕ) (records : List PageRecord) : Type 0 where
  pub content : (x : PageRecord) → Has records x → IsIntervalContent s j q m x.page x.words.items
  pub some : (x : PageRecord) → Has records x → (i : ℕ) × IntervalContentHas s j q m x.page i
  pub all : (n i : ℕ) → IntervalContentHas s j q m n i → (x : PageRecord) × Has records x × (x.page ≡ n)
  pub order : InOrder (λ (x y : PageRecord). x.page < y.page) records

-- q stores nothing at address a in its interval m
abbrev pub IsNotInClosedRecord : List Event → ℕ → ℕ → ℕ → Type 0
IsNotInClosedRecord j q m a = (i w : ℕ) → Does j i q (Store a w) → event_interval_at j q i ≡ m → ⊥

-- the last value that it stores there in it is v
pub record IsClosedRecordValue (j : List Event) (q m a v : ℕ) : Type 0 where
  pub place : ℕ
  pub does : Does j place q (Store a v)
  pub number : event_interval_at j q place ≡ m
  pub last : (i w : ℕ) → Does j i q (Store a w) → event_interval_at j q i ≡ m → i ≤ place

-- these are the words that it stores in it, of the first n from address a on, with their offsets from there
pub record AreClosedRecordWordsBelow (j : List Event) (q m a n : ℕ) (words : List (ℕ × ℕ)) : Type 0 where
  pub has : (o v : ℕ) → Has words (o, v) ↔ ((o < n) × IsClosedRecordValue j q m (a + o) v)
  pub rising : InOrder (λ (x y : ℕ × ℕ). x.0 < y.0) words

-- what is looked up is the history's
pub record IsClosedRecordIndex (s : Sizes) (j : List Event) (x : ClosedRecordIndex) : Type 0 where
  pub size : x.size ≡ s.words
  pub numbers : AreTakingEventNumbers j x.numbers.items
  pub stores : AreNumberedStoreRows j (length j) x.stores
  pub addresses : x.stores.addresses ≡ s.pages * s.words
