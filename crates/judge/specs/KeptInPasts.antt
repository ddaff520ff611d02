-- Which of the kept stores a past has, and which of these no other follows.
use Rattle.std.specs.Prelude.{ℕ, ◌≡◌, ◌<◌, ◌≤◌, List, Option, Some, MatchOption, length, slice_get}
use Rattle.base.specs.InOrderOnce.{Has}
use Rattle.journal.specs.declared.event.Event.{Event}
use Rattle.journal.specs.declared.event.Kind.TheVariants.{Store}
use Rattle.journal.specs.Pasts.{InPast}
use Rattle.journal.specs.WellFormed.{Does}
use Rattle.judge.specs.declared.flat_memory.FlatStore.{FlatStore}
use Rattle.judge.specs.declared.cut_rows.CutRows.{CutRows}
use Rattle.judge.specs.declared.kept_store.KeptStore.{KeptStore}
use Rattle.judge.specs.CutRows.{cut_entry}

-- the stores from the limit on begin at this index
pub record IsKeptStoreIndex (stores : List KeptStore) (limit from : ℕ) : Type 0 where
  pub below : (m : ℕ) (x : KeptStore) → m < from → slice_get stores m ≡ Some x → x.place < limit
  pub above : (m : ℕ) (x : KeptStore) → from ≤ m → slice_get stores m ≡ Some x → limit ≤ x.place
  pub within : from ≤ length stores

-- of these stores, x is the last one below the limit
pub record IsLastKeptStoreBelow (stores : List KeptStore) (limit : ℕ) (x : KeptStore) : Type 0 where
  pub index : ℕ
  pub at : slice_get stores index ≡ Some x
  pub below : x.place < limit
  pub later : (m : ℕ) (y : KeptStore) → index < m → slice_get stores m ≡ Some y → limit ≤ y.place

-- none of these stores is below the limit
abbrev pub NoKeptStoreBelow : List KeptStore → ℕ → Type 0
NoKeptStoreBelow stores limit = (m : ℕ) (x : KeptStore) → slice_get stores m ≡ Some x → limit ≤ x.place

-- of these stores, x is the last one in p's past
pub record IsLastKeptInPast (j : List Event) (p : ℕ) (stores : List KeptStore) (x : KeptStore) : Type 0 where
  pub has : Has stores x
  pub past : InPast j p x.place
  pub last : (y : KeptStore) → Has stores y → InPast j p y.place → y.place ≤ x.place

-- that store, if there is one
abbrev pub IsLastKeptInPastOf : List Event → ℕ → List KeptStore → Option KeptStore → Type 0
IsLastKeptInPastOf j p stores o =
    MatchOption o ((y : KeptStore) → Has stores y → ¬ InPast j p y.place) (IsLastKeptInPast j p stores)

-- of n processors, one whose last store in p's past, of what is kept of each, has q's store x in its cut
pub record IsKeptStoreFollowed (n : ℕ) (j : List Event) (cuts : CutRows) (p : ℕ) (of : ℕ → List KeptStore) (q : ℕ) (x : KeptStore) : Type 0 where
  pub by : ℕ
  pub store : KeptStore
  pub below : by < n
  pub last : IsLastKeptInPast j p (of by) store
  pub counts : x.place < cut_entry cuts store.cut q

-- one of the stores from this index on is of this value
pub record HasUnknownOfValue (stores : List KeptStore) (from value : ℕ) : Type 0 where
  pub index : ℕ
  pub store : KeptStore
  pub from_on : from ≤ index
  pub at : slice_get stores index ≡ Some store
  pub is : store.value ≡ value

-- x is one of these stores of q from the one index on and below the other
pub record IsUnknownWithin (stores : List KeptStore) (from to q : ℕ) (x : FlatStore) : Type 0 where
  pub index : ℕ
  pub store : KeptStore
  pub from_on : from ≤ index
  pub below : index < to
  pub at : slice_get stores index ≡ Some store
  pub is : x ≡ record { by = q; place = store.place; value = store.value }

-- q's stores to a that p's past doesn't have are those from this index on
pub record AreUnknownFrom (j : List Event) (p a q : ℕ) (stores : List KeptStore) (from : ℕ) : Type 0 where
  pub within : from ≤ length stores
  pub sound : (m : ℕ) (x : KeptStore) → from ≤ m → slice_get stores m ≡ Some x
      → Does j x.place q (Store a x.value) × (¬ InPast j p x.place)
  pub complete : (i v : ℕ) → Does j i q (Store a v) → ¬ InPast j p i
      → (m : ℕ) × (x : KeptStore) × (from ≤ m) × (slice_get stores m ≡ Some x) × (x.place ≡ i)
