-- Stores of a history that are kept.
use Rattle.std.specs.Prelude.{ℕ, ◌≡◌, ◌≢◌, ◌↔◌, ◌<◌, ◌≤◌, ◌+◌, ◌*◌, List, Some, length, slice_get}
use Rattle.base.specs.InOrderOnce.{Has, InOrder}
use Rattle.journal.specs.declared.event.Event.{Event}
use Rattle.journal.specs.declared.event.Kind.TheVariants.{Store}
use Rattle.journal.specs.Events.{EventAt}
use Rattle.journal.specs.EventsInRange.{EventProcessorsInRange}
use Rattle.journal.specs.HappensBeforeEdges.{HappensBefore}
use Rattle.journal.specs.WellFormed.{Does}
use Rattle.judge.specs.declared.cut_rows.CutRows.{CutRows}
use Rattle.judge.specs.declared.kept_store.KeptStore.{KeptStore}
use Rattle.judge.specs.declared.kept_stores.KeptStores.{KeptStores}
use Rattle.judge.specs.CutRows.{cut_entry}
use Rattle.judge.specs.Cuts.{AreCuts}
use Rattle.judge.specs.SparseTables.{IsSparseFor, sparse_row}
use Rattle.judge.specs.StoresInPasts.{MayBeAnsweredLater}

-- of each other processor, the events before place t happen before q's event at place k
pub record IsCutBefore (j : List Event) (q k : ℕ) (t : ℕ → ℕ) : Type 0 where
  pub covers : (i : ℕ) (e : Event) → EventAt j i e → e.processor ≢ q → HappensBefore j i k ↔ (i < t e.processor)
  pub within : (r : ℕ) → t r ≤ k

-- x is q's store to a at its place, of its value, with the cut that q had before it
pub record IsKeptStore (j : List Event) (cuts : CutRows) (a q : ℕ) (x : KeptStore) : Type 0 where
  pub does : Does j x.place q (Store a x.value)
  pub within : x.cut < cuts.count
  pub cut : IsCutBefore j q x.place (cut_entry cuts x.cut)

-- some of these stores stands at place i
pub record HasKeptStoreAt (stores : List KeptStore) (i : ℕ) : Type 0 where
  pub store : KeptStore
  pub has : Has stores store
  pub place : store.place ≡ i

-- these are stores of q to a, in order, and all that a load of one of n processors may answer that comes later
pub record AreKeptStores (n : ℕ) (j : List Event) (cuts : CutRows) (a q : ℕ) (stores : List KeptStore) : Type 0 where
  pub each : (m : ℕ) (x : KeptStore) → slice_get stores m ≡ Some x → IsKeptStore j cuts a q x
  pub rising : InOrder (λ (x y : KeptStore). x.place < y.place) stores
  pub all : (i : ℕ) → i < length j → MayBeAnsweredLater n j a q i → HasKeptStoreAt stores i

-- of n processors, where the stores of q to a are kept
abbrev pub kept_store_row : ℕ → ℕ → ℕ → ℕ
kept_store_row n a q = a * n + q

-- the stores of q to a that are kept
abbrev pub kept_stores_of : KeptStores → ℕ → ℕ → List KeptStore
kept_stores_of s a q = sparse_row s.stores (kept_store_row s.processors a q)

-- the stores and cuts that are kept are the history's
pub record KeptStoresAreOf (j : List Event) (s : KeptStores) : Type 0 where
  pub wide : s.known.cuts.width ≡ s.processors
  pub sparse : IsSparseFor (s.addresses * s.processors) (length j) s.stores
  pub stores : (a q : ℕ) → q < s.processors
      → AreKeptStores s.processors j s.known.cuts a q (kept_stores_of s a q)

-- what is kept tells this history so far
pub record AreKeptStoresOf (j : List Event) (s : KeptStores) : Type 0 where
  pub cuts : AreCuts j s.cuts
  pub present : s.cuts.present ≡ s.processors
  pub processors : EventProcessorsInRange s.processors j
  pub kept : KeptStoresAreOf j s
