-- One memory that the events are done to in their order.
use Rattle.std.specs.Prelude.{ℕ, ◌<◌, ◌≤◌, Option, MatchOption, List, length}
use Rattle.journal.specs.declared.event.Event.{Event}
use Rattle.journal.specs.declared.event.Kind.TheVariants.{Store}
use Rattle.journal.specs.WellFormed.{Does}
use Rattle.judge.specs.declared.flat_memory.FlatMemory.{FlatMemory}
use Rattle.judge.specs.declared.flat_memory.FlatStore.{FlatStore}
use Rattle.judge.specs.SparseTables.{IsSparseFor, sparse_at}

-- x is the last store to a
pub record IsLastFlatStore (j : List Event) (a : ℕ) (x : FlatStore) : Type 0 where
  pub stores : Does j x.place x.by (Store a x.value)
  pub last : (m q w : ℕ) → Does j m q (Store a w) → m ≤ x.place

-- that store, if there is one
abbrev pub KeepsLastFlatStore : List Event → ℕ → Option FlatStore → Type 0
KeepsLastFlatStore j a o = MatchOption o ((m q w : ℕ) → ¬ Does j m q (Store a w)) (IsLastFlatStore j a)

-- of so many addresses, the last store to each is kept
pub record HasLastFlatStores (j : List Event) (addresses : ℕ) (x : FlatMemory) : Type 0 where
  pub sparse : IsSparseFor addresses (length j) x.stores
  pub stores : (a : ℕ) → a < addresses → KeepsLastFlatStore j a (sparse_at x.stores a)
