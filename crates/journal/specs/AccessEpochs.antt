-- What the race checker keeps of each address.
use Rattle.std.specs.Prelude.{ℕ, ◌≡◌, ◌≢◌, ◌⊎◌, ◌<◌, ◌≤◌, ◌%◌, ◌==◌, cond, List, [], slice_index, slice_index_or, vec_len}
use Rattle.base.specs.Limits.{most_processors}
use Rattle.journal.specs.declared.event.Event.{Event}
use Rattle.journal.specs.declared.event.Kind.{Kind}
use Rattle.journal.specs.declared.event.Kind.TheVariants.{Load, Store}
use Rattle.journal.specs.declared.race_epochs.Epoch.{Epoch}
use Rattle.journal.specs.declared.race_epochs.Loads.{Loads}
use Rattle.journal.specs.declared.race_epochs.Loads.TheVariants.{Last, Several}
use Rattle.journal.specs.declared.race_epochs.Access.{Access}
use Rattle.journal.specs.declared.race_epochs.RaceEpochs.{RaceEpochs}
use Rattle.journal.specs.Events.{event_interval_at}
use Rattle.journal.specs.WellFormed.{Does}
use Rattle.journal.specs.Pasts.{UpTo}

-- of each processor, the number of its access: only one made it
abbrev pub access_epoch_number : Epoch → ℕ → ℕ
access_epoch_number x q = cond (x.processor % most_processors == q) x.number 0

-- of each processor, the number of its load
abbrev pub access_epoch_number_of_loads : Loads → List ℕ → ℕ → ℕ
access_epoch_number_of_loads (Last x) several q = access_epoch_number x q
access_epoch_number_of_loads Several several q = slice_index several q

-- what is kept of an address past the last one: nothing
abbrev pub access_epochs_at : List Access → ℕ → Access
access_epochs_at last a =
    slice_index_or last a
    (record { store = record { processor = 0; number = 0 }; loads = Last (record { processor = 0; number = 0 }) })

abbrev pub store_access_epoch_at : RaceEpochs → ℕ → ℕ → ℕ
store_access_epoch_at x a = access_epoch_number (access_epochs_at x.last.items a).store

abbrev pub load_access_epoch_at : RaceEpochs → ℕ → ℕ → ℕ
load_access_epoch_at x a = access_epoch_number_of_loads (access_epochs_at x.last.items a).loads (slice_index_or x.loads.items a [])

-- place i is an event that these numbers count, or happens before one
pub record IsReachedByAccessEpochs (j : List Event) (numbers : ℕ → ℕ) (i : ℕ) : Type 0 where
  pub by : ℕ
  pub last : ℕ
  pub kind : Kind
  pub does : Does j last by kind
  pub number : event_interval_at j by last < numbers by
  pub reaches : UpTo j last i

-- the last accesses of each address reach all accesses of it:
-- its stores the last store, its loads that or the last loads
pub record AreAccessEpochs (j : List Event) (addresses : ℕ) (x : RaceEpochs) : Type 0 where
  pub last_long : vec_len x.last ≡ addresses
  pub loads_long : vec_len x.loads ≡ addresses
  pub stores : (a q i v : ℕ) → Does j i q (Store a v) → IsReachedByAccessEpochs j (store_access_epoch_at x a) i
  pub loads : (a q i v : ℕ) → Does j i q (Load a v)
      → IsReachedByAccessEpochs j (store_access_epoch_at x a) i ⊎ IsReachedByAccessEpochs j (load_access_epoch_at x a) i

-- p's timestamp t reaches the numbers of all others
abbrev pub AreAccessEpochsWithin : (ℕ → ℕ) → (ℕ → ℕ) → ℕ → Type 0
AreAccessEpochsWithin numbers t p = (q : ℕ) → q ≢ p → numbers q ≤ t q

-- p's timestamp t reaches those of all last accesses by others that conflict with this
abbrev pub AreConflictAccessEpochsCounted : RaceEpochs → ℕ → (ℕ → ℕ) → Kind → Type 0
AreConflictAccessEpochsCounted x p t (Load a v) = AreAccessEpochsWithin (store_access_epoch_at x a) t p
AreConflictAccessEpochsCounted x p t (Store a v) = AreAccessEpochsWithin (store_access_epoch_at x a) t p × AreAccessEpochsWithin (load_access_epoch_at x a) t p
AreConflictAccessEpochsCounted x p t _ = Unit {0}

-- numbers after a load by p at the timestamp t: p's is above its interval, and each other one as great as before, or t
-- counts what it was
pub record AreAccessEpochsAfterLoad (old new t : ℕ → ℕ) (p : ℕ) : Type 0 where
  pub own : t p < new p
  pub others : (q : ℕ) → q ≢ p → (old q ≤ t q) ⊎ (old q ≤ new q)

-- a store of a by p at the timestamp t is the last one, and the other addresses are as before
pub record StoreAccessEpochNoted (x y : RaceEpochs) (a p : ℕ) (t : ℕ → ℕ) : Type 0 where
  pub own : t p < store_access_epoch_at y a p
  pub same_stores : (b q : ℕ) → b ≢ a → store_access_epoch_at y b q ≡ store_access_epoch_at x b q
  pub same_loads : (b q : ℕ) → b ≢ a → load_access_epoch_at y b q ≡ load_access_epoch_at x b q

-- a load of a is among the last ones, and all else is as before
pub record LoadAccessEpochNoted (x y : RaceEpochs) (a p : ℕ) (t : ℕ → ℕ) : Type 0 where
  pub loads : AreAccessEpochsAfterLoad (load_access_epoch_at x a) (load_access_epoch_at y a) t p
  pub same_stores : (b q : ℕ) → store_access_epoch_at y b q ≡ store_access_epoch_at x b q
  pub same_loads : (b q : ℕ) → b ≢ a → load_access_epoch_at y b q ≡ load_access_epoch_at x b q

-- p's event of this kind at the timestamp t is taken note of
abbrev pub AccessEpochNoted : RaceEpochs → RaceEpochs → ℕ → (ℕ → ℕ) → Kind → Type 0
AccessEpochNoted x y p t (Load a v) = LoadAccessEpochNoted x y a p t
AccessEpochNoted x y p t (Store a v) = StoreAccessEpochNoted x y a p t
AccessEpochNoted x y p t _ = y ≡ x
