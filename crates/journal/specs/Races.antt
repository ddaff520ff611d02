-- Conflicts and races.
use Rattle.std.specs.Prelude.{ℕ, ◌≡◌, ◌≢◌, ◌<◌, ◌≤◌, ◌⊎◌, List, Some, IsTrue}
use Rattle.journal.specs.declared.event.Event.{Event}
use Rattle.journal.specs.Events.{EventAt, event_address, event_stores}
use Rattle.journal.specs.HappensBeforeEdges.{HappensBefore}

-- one address, and a store at least on one side
pub record Conflict (e f : Event) : Type 0 where
  pub address : ℕ
  pub first : event_address e.kind ≡ Some address
  pub second : event_address f.kind ≡ Some address
  pub stores : IsTrue (event_stores e.kind) ⊎ IsTrue (event_stores f.kind)

-- two accesses that conflict, by two processors, the first of which does not happen before the second
pub record Race (j : List Event) (i k : ℕ) : Type 0 where
  pub before : i < k
  pub first : Event
  pub second : Event
  pub first_at : EventAt j i first
  pub second_at : EventAt j k second
  pub apart : first.processor ≢ second.processor
  pub conflict : Conflict first second
  pub unordered : ¬ HappensBefore j i k

-- the pair with the least second place, and among these the least first one
pub record IsFirstRace (j : List Event) (i k : ℕ) : Type 0 where
  pub race : Race j i k
  pub least_second : (m n : ℕ) → Race j m n → k ≤ n
  pub least_first : (m : ℕ) → Race j m k → i ≤ m

abbrev pub RaceFree : List Event → Type 0
RaceFree j = (i k : ℕ) → ¬ Race j i k
