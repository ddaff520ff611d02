-- Races from a base.
use Rattle.std.specs.Prelude.{ℕ, ◌≢◌, ◌<◌, ◌≤◌, List}
use Rattle.journal.specs.declared.event.Event.{Event}
use Rattle.journal.specs.Events.{EventAt}
use Rattle.journal.specs.Races.{Conflict}
use Rattle.journal.specs.Base.{Base}
use Rattle.journal.specs.HappensBeforeFromBase.{HappensBeforeFromBase}

-- two accesses that conflict, by two processors, the first of which does not happen before the second
pub record RaceFromBase (b : Base) (j : List Event) (i k : ℕ) : Type 0 where
  pub before : i < k
  pub first : Event
  pub second : Event
  pub first_at : EventAt j i first
  pub second_at : EventAt j k second
  pub apart : first.processor ≢ second.processor
  pub conflict : Conflict first second
  pub unordered : ¬ HappensBeforeFromBase b j i k

-- the pair with the least second place, and among these the least first one
pub record IsFirstRaceFromBase (b : Base) (j : List Event) (i k : ℕ) : Type 0 where
  pub race : RaceFromBase b j i k
  pub least_second : (m n : ℕ) → RaceFromBase b j m n → k ≤ n
  pub least_first : (m : ℕ) → RaceFromBase b j m k → i ≤ m

abbrev pub RaceFreeFromBase : Base → List Event → Type 0
RaceFreeFromBase b j = (i k : ℕ) → ¬ RaceFromBase b j i k
