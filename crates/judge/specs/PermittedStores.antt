-- The stores whose values a load may answer, each with its place and value.
use Rattle.std.specs.Prelude.{ℕ, ◌<◌, ◌↔◌, List}
use Rattle.base.specs.InOrderOnce.{Has, InOrder}
use Rattle.journal.specs.declared.event.Event.{Event}
use Rattle.journal.specs.declared.event.Kind.TheVariants.{Store}
use Rattle.journal.specs.HappensBeforeEdges.{HappensBefore}
use Rattle.journal.specs.WellFormed.{Does}
use Rattle.judge.specs.declared.flat_memory.FlatStore.{FlatStore}
use Rattle.judge.specs.Sources.Latest.{IsLatest}

-- x is a latest store for a load of a at place k
pub record IsLatestStore (j : List Event) (k a : ℕ) (x : FlatStore) : Type 0 where
  pub stores : Does j x.place x.by (Store a x.value)
  pub latest : IsLatest j k a x.by x.place

-- these are all of them, by rising processor
pub record AreLatestStores (j : List Event) (k a : ℕ) (stores : List FlatStore) : Type 0 where
  pub has : (x : FlatStore) → Has stores x ↔ IsLatestStore j k a x
  pub order : InOrder (λ (x y : FlatStore). x.by < y.by) stores

-- x is a store to a before place k, and that place's past doesn't have it
pub record IsUnorderedStore (j : List Event) (k a : ℕ) (x : FlatStore) : Type 0 where
  pub stores : Does j x.place x.by (Store a x.value)
  pub before : x.place < k
  pub unordered : ¬ HappensBefore j x.place k
