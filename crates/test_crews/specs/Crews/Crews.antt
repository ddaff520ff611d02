-- A cluster with its processors.
use Rattle.std.specs.Prelude.{ℕ, ◌≡◌, ◌≢◌, Option, Some, None, List, length, slice_get}
use Rattle.book.specs.declared.refused.Refused.{Refused}
use Rattle.cluster.specs.Copies.Local.{Local, calls}
use Rattle.cluster.specs.NewClusters.{SharedCluster}
use Rattle.cluster.specs.Covers.{HasCoverage, IsCoverAllowed}

-- the cluster and its processors, as contracts see them
pub record Crewed : Type 0 where
  pub cluster : SharedCluster
  pub all : List Local

abbrev pub crewed : SharedCluster → List Local → Crewed
crewed c ms = record { cluster = c; all = ms }

-- a processor of this cluster: some book is allowed for it, and each such book covers it
pub record IsOf (c : SharedCluster) (m : Local) : Type 0 where
  pub lock_is : m.lock ≡ c.lock
  pub sizes_are : m.sizes ≡ c.sizes
  pub allowed : IsCoverAllowed m
  pub covers : HasCoverage m

-- it is still one of the cluster's, with its number; a refused call added nothing
pub record StaysItself (c : SharedCluster) (old new : Local) (refused : Option Refused) : Type 0 where
  pub own : IsOf c new
  pub number : new.number ≡ old.number
  pub kept : refused ≢ None → calls new ≡ calls old

-- its processor p
pub record IsMember (c : SharedCluster) (p : ℕ) (m : Local) : Type 0 where
  pub of : IsOf c m
  pub number_is : m.number ≡ p

-- all of them, in the order of their numbers
pub record AreMembers (c : SharedCluster) (ms : List Local) : Type 0 where
  pub all : length ms ≡ c.sizes.processors
  pub each : (p : ℕ) (m : Local) → slice_get ms p ≡ Some m → IsMember c p m

-- only processor p changed
pub record IsTurnOf (p : ℕ) (old new : Crewed) : Type 0 where
  pub cluster : new.cluster ≡ old.cluster
  pub others : (q : ℕ) → q ≢ p → slice_get new.all q ≡ slice_get old.all q

-- the accepted calls of each processor are as they were
abbrev pub HaveSameCalls : List Local → List Local → Type 0
HaveSameCalls old new = (q : ℕ) (m n : Local) → slice_get old q ≡ Some m → slice_get new q ≡ Some n → calls n ≡ calls m
