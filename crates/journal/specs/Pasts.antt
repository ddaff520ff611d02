-- What has happened before an event, and before what a processor does next.
use Rattle.std.specs.Prelude.{ℕ, ◌≡◌, ◌⊎◌, List}
use Rattle.journal.specs.declared.event.Event.{Event}
use Rattle.journal.specs.Events.{EventAt}
use Rattle.journal.specs.HappensBeforeEdges.{HappensBefore}

-- place i is k, or happens before it
abbrev pub UpTo : List Event → ℕ → ℕ → Type 0
UpTo j k i = (i ≡ k) ⊎ HappensBefore j i k

-- place i is p's own, or reaches one of p's
pub record InPast (j : List Event) (p i : ℕ) : Type 0 where
  pub own : ℕ
  pub event : Event
  pub at : EventAt j own event
  pub mine : event.processor ≡ p
  pub reaches : UpTo j own i

-- place i is one of these, or happens before one
abbrev pub InPastOfSome : List Event → (ℕ → Type 0) → ℕ → Type 0
InPastOfSome j some i = (k : ℕ) × some k × UpTo j k i
