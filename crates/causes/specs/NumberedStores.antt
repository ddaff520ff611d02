-- Of each address and processor the stores, in order, with the numbers of their intervals.
use Rattle.std.specs.Prelude.{ℕ, ◌≡◌, ◌*◌, ◌<◌, ◌≤◌, List, Some, slice_get, vec_len}
use Rattle.std.specs.Global.{Vec}
use Rattle.base.specs.Limits.{most_processors}
use Rattle.base.specs.InOrderOnce.{InOrder}
use Rattle.journal.specs.declared.event.Event.{Event}
use Rattle.journal.specs.declared.event.Kind.TheVariants.{Store}
use Rattle.journal.specs.Events.{event_interval_at}
use Rattle.journal.specs.WellFormed.{Does}
use Rattle.judge.specs.GapTally.{gap_tally_place_of}
use Rattle.causes.specs.declared.store_rows.NumberedStore.{NumberedStore}
use Rattle.causes.specs.declared.store_rows.StoreRows.{StoreRows}

-- q stores to a at the place, which lies below n, in its interval of this number
pub record IsNumberedStore (j : List Event) (a q n : ℕ) (x : NumberedStore) : Type 0 where
  pub below : x.place < n
  pub value : ℕ
  pub does : Does j x.place q (Store a value)
  pub interval : x.interval ≡ event_interval_at j q x.place

-- these are q's stores to a below place n, in order
pub record AreNumberedStoresBelow (j : List Event) (a q n : ℕ) (stores : List NumberedStore) : Type 0 where
  pub each : (m : ℕ) (x : NumberedStore) → slice_get stores m ≡ Some x → IsNumberedStore j a q n x
  pub rising : InOrder (λ (x y : NumberedStore). x.place < y.place) stores
  pub all : (i v : ℕ) → i < n → Does j i q (Store a v)
      → (m : ℕ) × (x : NumberedStore) × (slice_get stores m ≡ Some x) × (x.place ≡ i)

-- and these are those of each address and each of sixteen processors
pub record AreNumberedStoreRows (j : List Event) (n : ℕ) (x : StoreRows) : Type 0 where
  pub long : vec_len x.rows ≡ x.addresses * most_processors
  pub each : (a q : ℕ) (row : Vec NumberedStore) → q < most_processors → slice_get x.rows.items (gap_tally_place_of a q) ≡ Some row
      → AreNumberedStoresBelow j a q n row.items

-- none of these stores is of an interval below the limit
abbrev pub NoNumberedStoreUnder : List NumberedStore → ℕ → Type 0
NoNumberedStoreUnder stores limit = (m : ℕ) (x : NumberedStore) → slice_get stores m ≡ Some x → limit ≤ x.interval

-- x is the last one that is
pub record IsLastNumberedStoreUnder (stores : List NumberedStore) (limit : ℕ) (x : NumberedStore) : Type 0 where
  pub index : ℕ
  pub at : slice_get stores index ≡ Some x
  pub under : x.interval < limit
  pub later : (m : ℕ) (y : NumberedStore) → index < m → slice_get stores m ≡ Some y → limit ≤ y.interval
