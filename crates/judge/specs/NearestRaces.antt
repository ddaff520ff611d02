-- The race that is nearest to an event: what is kept of accesses to find it.
use Rattle.std.specs.Prelude.{ℕ, ◌≡◌, ◌≢◌, ◌==◌, ◌+◌, ◌*◌, ◌<◌, ◌≤◌, Bool, false, IsTrue, Option, Some, MatchOption, List, [], ◌∷◌, ◌++◌, length}
use Rattle.journal.specs.declared.event.Event.{Event}
use Rattle.journal.specs.declared.event.Kind.{Kind}
use Rattle.journal.specs.declared.event.Kind.TheVariants.{Load, Store}
use Rattle.journal.specs.WellFormed.{Does}
use Rattle.journal.specs.EventsInRange.{EventProcessorsInRange}
use Rattle.journal.specs.Races.{Race}
use Rattle.judge.specs.declared.nearest_races.NearestRaces.{NearestRaces}
use Rattle.judge.specs.Cuts.{AreCuts}
use Rattle.judge.specs.SparseTables.{IsSparseFor, sparse_at}

-- the pair with the least second place, and among these the greatest first one
pub record IsNearestRace (j : List Event) (i k : ℕ) : Type 0 where
  pub race : Race j i k
  pub least_second : (m n : ℕ) → Race j m n → k ≤ n
  pub greatest_first : (m : ℕ) → Race j m k → m ≤ i

-- of the events of j that race with e, which comes next, this is the last one
abbrev pub IsNearestRaceTo : List Event → Event → Option ℕ → Type 0
IsNearestRaceTo j e o = MatchOption o ((i : ℕ) → ¬ Race (j ++ e ∷ []) i (length j))
    (λ i. Race (j ++ e ∷ []) i (length j) × ((m : ℕ) → Race (j ++ e ∷ []) m (length j) → m ≤ i))

-- and this is the first one
abbrev pub IsFirstRaceTo : List Event → Event → Option ℕ → Type 0
IsFirstRaceTo j e o = MatchOption o ((i : ℕ) → ¬ Race (j ++ e ∷ []) i (length j))
    (λ i. Race (j ++ e ∷ []) i (length j) × ((m : ℕ) → Race (j ++ e ∷ []) m (length j) → i ≤ m))

-- a store to a
abbrev pub is_nearest_race_store : ℕ → Kind → Bool
is_nearest_race_store a (Store b v) = b == a
is_nearest_race_store a _ = false

-- a load or a store of a
abbrev pub is_nearest_race_access : ℕ → Kind → Bool
is_nearest_race_access a (Load b v) = b == a
is_nearest_race_access a (Store b v) = b == a
is_nearest_race_access a _ = false

-- of n processors, where the place of q's last access of a is kept
abbrev pub nearest_race_row : ℕ → ℕ → ℕ → ℕ
nearest_race_row n a q = a * n + q

-- q's last event of these kinds stands at place i
pub record IsNearestRaceAccess (j : List Event) (is : Kind → Bool) (q i : ℕ) : Type 0 where
  pub kind : Kind
  pub does : Does j i q kind
  pub counts : IsTrue (is kind)
  pub last : (m : ℕ) (k : Kind) → Does j m q k → IsTrue (is k) → m ≤ i

-- the place of that event, if there is one
abbrev pub IsNearestRaceAccessOf : List Event → (Kind → Bool) → ℕ → Option ℕ → Type 0
IsNearestRaceAccessOf j is q o =
    MatchOption o ((i : ℕ) (k : Kind) → Does j i q k → ¬ IsTrue (is k)) (IsNearestRaceAccess j is q)

-- the rows have the places of these last events, by address and processor, of which there are n
abbrev pub AreNearestRaceAccesses : ℕ → List Event → (ℕ → Kind → Bool) → (ℕ → Option ℕ) → Type 0
AreNearestRaceAccesses n j of rows = (a q : ℕ) → q < n → IsNearestRaceAccessOf j (of a) q (rows (nearest_race_row n a q))

-- of the rows from `row` on, q's has place i, which isn't in p's cut t
pub record IsNearestRaceUnknown (rows : ℕ → Option ℕ) (row : ℕ) (t : ℕ → ℕ) (p q i : ℕ) : Type 0 where
  pub apart : q ≢ p
  pub at : rows (row + q) ≡ Some i
  pub unknown : t q ≤ i

-- some processor below n has one there
pub record SomeNearestRaceUnknown (rows : ℕ → Option ℕ) (row : ℕ) (t : ℕ → ℕ) (p n i : ℕ) : Type 0 where
  pub by : ℕ
  pub below : by < n
  pub is : IsNearestRaceUnknown rows row t p by i

-- the last of those that the first n processors have
abbrev pub IsNearestRaceLastUnknown : (ℕ → Option ℕ) → ℕ → (ℕ → ℕ) → ℕ → ℕ → Option ℕ → Type 0
IsNearestRaceLastUnknown rows row t p n o = MatchOption o ((i : ℕ) → ¬ SomeNearestRaceUnknown rows row t p n i)
    (λ i. SomeNearestRaceUnknown rows row t p n i × ((m : ℕ) → SomeNearestRaceUnknown rows row t p n m → m ≤ i))

-- what is kept of the accesses is the history's
pub record NearestRaceAccessesAreKept (j : List Event) (x : NearestRaces) : Type 0 where
  pub stores : AreNearestRaceAccesses x.processors j is_nearest_race_store (sparse_at x.stores)
  pub accesses : AreNearestRaceAccesses x.processors j is_nearest_race_access (sparse_at x.accesses)
  pub stores_sparse : IsSparseFor (x.addresses * x.processors) (length j) x.stores
  pub accesses_sparse : IsSparseFor (x.addresses * x.processors) (length j) x.accesses

-- what is kept tells the races of this history so far
pub record AreNearestRacesOf (j : List Event) (x : NearestRaces) : Type 0 where
  pub cuts : AreCuts j x.cuts
  pub present : x.cuts.present ≡ x.processors
  pub processors : EventProcessorsInRange x.processors j
  pub kept : NearestRaceAccessesAreKept j x
