-- What keeps the two accesses of a race apart.
use Rattle.std.specs.Prelude.{ℕ, ◌≡◌, List, take}
use Rattle.journal.specs.declared.event.Event.{Event}
use Rattle.journal.specs.Events.{EventAt}
use Rattle.journal.specs.WellFormed.{Holds}
use Rattle.causes.specs.declared.apart.RaceApart.{RaceApart}
use Rattle.causes.specs.Heard.{IsHeard}
use Rattle.causes.specs.FinalWaits.{AreThoseInFinalWait}

-- what the processor of the access at place k has heard of that of the one at place i, and which of so many locks each holds
pub record IsRaceApart (locks : ℕ) (j : List Event) (i k : ℕ) (x : RaceApart) : Type 0 where
  pub first : x.first ≡ i
  pub second : x.second ≡ k
  pub heard : (e : Event) → EventAt j i e → IsHeard j e.processor k x.heard
  pub first_locks : (e : Event) → EventAt j i e → AreThoseInFinalWait (Holds (take i j) e.processor) locks x.first_locks.items
  pub second_locks : (e : Event) → EventAt j k e → AreThoseInFinalWait (Holds (take k j) e.processor) locks x.second_locks.items
