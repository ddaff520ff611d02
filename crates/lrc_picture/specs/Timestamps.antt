-- The timestamps of a run's events.
use Rattle.std.specs.Prelude.{ℕ, ◌≡◌, ◌+◌, List, Some, slice_get, slice_index, take}
use Rattle.journal.specs.declared.event.Event.{Event}
use Rattle.journal.specs.Events.{EventAt}
use Rattle.journal.specs.Times.{IsTimeOf}

-- of each of the first events this is its processor's timestamp after it
abbrev pub ArePictureTimestampsAfter : List Event → List (List ℕ) → Type 0
ArePictureTimestampsAfter j times = (k : ℕ) (e : Event) (t : List ℕ) → EventAt j k e → slice_get times k ≡ Some t
    → IsTimeOf (take (k + 1) j) e.processor (slice_index t)
