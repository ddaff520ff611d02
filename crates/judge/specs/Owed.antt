-- What loads owe, as a history goes on.
use Rattle.std.specs.Prelude.{ℕ, ◌≡◌, ◌↔◌, Bool, MatchBool, Option, Some, List, [], ◌∷◌, ◌++◌, take}
use Rattle.base.specs.InOrderOnce.{Has}
use Rattle.journal.specs.declared.event.Event.{Event}
use Rattle.journal.specs.Sizes.{Sizes, addresses}
use Rattle.journal.specs.Races.{RaceFree}
use Rattle.judge.specs.declared.models.MemoryModel.{MemoryModel}
use Rattle.judge.specs.declared.models.MemoryModel.TheVariants as model
use Rattle.judge.specs.declared.flat_memory.FlatStore.{FlatStore}
use Rattle.judge.specs.declared.kept_stores.KeptStores.{KeptStores}
use Rattle.judge.specs.declared.owed.Owed.{Owed}
use Rattle.judge.specs.declared.owed.Owed.TheVariants as owed
use Rattle.judge.specs.declared.permitted.Permitted.{Permitted}
use Rattle.judge.specs.declared.permitted.Permitted.TheVariants as permitted
use Rattle.judge.specs.KeptStores.{AreKeptStoresOf}
use Rattle.judge.specs.LastFlatStores.{KeepsLastFlatStore, HasLastFlatStores}
use Rattle.judge.specs.PermittedStores.{AreLatestStores, IsUnorderedStore}
use Rattle.judge.specs.Sources.Latest.{IsLatest}

-- the stores that are kept tell this history of a cluster of these sizes
pub record AreStoresOfOwed (s : Sizes) (j : List Event) (x : KeptStores) : Type 0 where
  pub tells : AreKeptStoresOf j x
  pub processors : x.processors ≡ s.processors
  pub addresses : x.addresses ≡ addresses s

-- what is kept tells what the loads of this history owe under the model
abbrev pub AreOwedBy : MemoryModel → Sizes → List Event → Owed → Type 0
AreOwedBy m s j (owed.RaceFree x) = (m ≡ model.RaceFree) × HasLastFlatStores j (addresses s) x
AreOwedBy m s j (owed.HappensBefore x) = (m ≡ model.HappensBefore) × AreStoresOfOwed s j x
AreOwedBy m s j (owed.LazyRelease x) = (m ≡ model.LazyRelease) × AreStoresOfOwed s j x
AreOwedBy m s j (owed.Sequential x) = (m ≡ model.Sequential) × HasLastFlatStores j (addresses s) x

-- whether some events of j race, or one does with e, which comes next
abbrev pub IsOwedRacy : List Event → Event → Bool → Type 0
IsOwedRacy j e racy = MatchBool racy (¬ RaceFree (j ++ e ∷ [])) (RaceFree (j ++ e ∷ []))

-- this store is processor q's, and stands at place i
abbrev pub IsOwedLastStore : Option FlatStore → ℕ → ℕ → Type 0
IsOwedLastStore o q i = (x : FlatStore) × (o ≡ Some x) × (x.by ≡ q) × (x.place ≡ i)

-- the last store to a before place k, if there is one, is the latest one for a load there
pub record IsOwedOneStore (j : List Event) (k a : ℕ) (store : Option FlatStore) : Type 0 where
  pub latest : (q i : ℕ) → IsOwedLastStore store q i ↔ IsLatest j k a q i
  pub last : KeepsLastFlatStore (take k j) a store

-- what a load of a at place k may answer under the model is the value of these stores, or 0 where its past has none
abbrev pub PermitsOwed : MemoryModel → List Event → ℕ → ℕ → Permitted → Type 0
PermitsOwed m j k a (permitted.One store) = (m ≡ model.RaceFree) × IsOwedOneStore j k a store
PermitsOwed m j k a (permitted.Latest latest) = (m ≡ model.LazyRelease) × AreLatestStores j k a latest.items
PermitsOwed m j k a (permitted.Heard latest unordered) =
    (m ≡ model.HappensBefore) × AreLatestStores j k a latest.items
    × ((x : FlatStore) → Has unordered.items x ↔ IsUnorderedStore j k a x)
PermitsOwed m j k a (permitted.Last store) = (m ≡ model.Sequential) × KeepsLastFlatStore (take k j) a store
