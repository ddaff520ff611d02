-- A cluster as contracts see it, and its processors at the start.
use Rattle.std.specs.Prelude.{ℕ, ◌≡◌, ◌≤◌, Some, List, [], length, replicate, slice_get, vec_capacity, false}
use Rattle.journal.specs.Sizes.{Sizes}
use Rattle.base.specs.Limits.{most_in_block}
use Rattle.turn.specs.Chairs.{ChairLockId, lock, chair_place, chair_view, entries, IsChairOutside}
use Rattle.turn.specs.declared.chair.ChairToken.{ChairToken}
use Rattle.book.specs.BookState.{BookState}
use Rattle.cluster.specs.declared.keeper.View.{View}
use Rattle.cluster.specs.declared.processor.ProcessorParts.{ProcessorParts}
use Rattle.cluster.specs.Copies.Local.{Local, blank_local_copy, new_local}
use Rattle.cluster.specs.KeptViews.{view_of_nothing}
use Rattle.cluster.specs.Covers.{IsCoverAllowed, HasCoverage}

-- its lock and its sizes
pub record SharedCluster : Type 0 where
  pub lock : ChairLockId
  pub sizes : Sizes

abbrev pub shared_cluster : ChairLockId → Sizes → SharedCluster
shared_cluster l s = record { lock = l; sizes = s }

-- its lock has as many words as locks of this kind have for its processors
abbrev pub IsClusterLockOf : (ℕ → ℕ) → SharedCluster → Type 0
IsClusterLockOf width c = c.lock.table.words ≡ width c.sizes.processors

-- a block with room, blank copies, no lock held and no interval performed
pub record AreNewClusterParts (s : Sizes) (x : ProcessorParts) : Type 0 where
  pub block : x.block.items ≡ []
  pub room : most_in_block ≤ vec_capacity x.block
  pub replicas : x.replicas.items ≡ replicate s.pages (blank_local_copy s)
  pub held : x.held.items ≡ replicate s.locks false
  pub time : x.time ≡ replicate s.processors 0

-- the chair at place p of this lock, which never entered
pub record IsNewClusterChair (l : ChairLockId) (s : Sizes) (p : ℕ) (c : ChairToken BookState View) : Type 0 where
  pub lock_is : lock c ≡ l
  pub place_is : chair_place c ≡ p
  pub view_is : chair_view c ≡ view_of_nothing s
  pub entries_are : entries c ≡ 0
  pub outside : IsChairOutside c

-- all of them, in the order of their places
abbrev pub AreNewClusterChairs : Sizes → List (ChairToken BookState View) → Type 0
AreNewClusterChairs s cs = (p : ℕ) (c : ChairToken BookState View) → slice_get cs p ≡ Some c → IsNewClusterChair (lock c) s p c

-- all chairs of a cluster's lock, before it has processors
pub record HasNewClusterChairs (c : SharedCluster) (cs : List (ChairToken BookState View)) : Type 0 where
  pub all : length cs ≡ c.sizes.processors
  pub each : (p : ℕ) (chair : ChairToken BookState View) → slice_get cs p ≡ Some chair → IsNewClusterChair c.lock c.sizes p chair

-- the processor at place p of those that these chairs were given to
pub record IsSeatedAtNewCluster (s : Sizes) (cs : List (ChairToken BookState View)) (p : ℕ) (m : Local) : Type 0 where
  pub chair : ChairToken BookState View
  pub at : slice_get cs p ≡ Some chair
  pub is : m ≡ new_local (lock chair) p s

-- each of them
pub record IsNewClusterSeated (s : Sizes) (cs : List (ChairToken BookState View)) (ms : List Local) : Type 0 where
  pub all : length ms ≡ length cs
  pub each : (p : ℕ) (m : Local) → slice_get ms p ≡ Some m → IsSeatedAtNewCluster s cs p m

-- all processors of the cluster in the order of their numbers, before their first calls
pub record IsNewCluster (c : SharedCluster) (ms : List Local) : Type 0 where
  pub all : length ms ≡ c.sizes.processors
  pub each : (p : ℕ) (m : Local) → slice_get ms p ≡ Some m → m ≡ new_local c.lock p c.sizes

-- the lock may have some book for each processor, and each such book covers it
pub record HasClusterCoverage (ms : List Local) : Type 0 where
  pub allowed : (p : ℕ) (m : Local) → slice_get ms p ≡ Some m → IsCoverAllowed m
  pub covers : (p : ℕ) (m : Local) → slice_get ms p ≡ Some m → HasCoverage m
