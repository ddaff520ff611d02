-- Histories after which nothing can happen, though all processors wait.
use Rattle.std.specs.Prelude.{ℕ, ◌≡◌, ◌<◌, Some, List}
use Rattle.journal.specs.declared.event.Event.{Event}
use Rattle.journal.specs.declared.event.Kind.{Kind}
use Rattle.journal.specs.Sizes.{Sizes}
use Rattle.journal.specs.WellFormed.{LastIs, WellFormedNext, Ready}
use Rattle.journal.specs.AwaitedNext.{awaited_next}

-- each processor's last event is a call that waits, and what it waits for has not come
pub record IsDeadlock (s : Sizes) (j : List Event) : Type 0 where
  pub waits : (p : ℕ) → p < s.processors → (i : ℕ) × (a : Kind) × (c : Kind) × LastIs j p i a × (awaited_next a ≡ Some c)
  pub not_ready : (p : ℕ) → ¬ Ready s j p

-- no event may follow a deadlock
abbrev pub DeadlockLaw : Type 0
DeadlockLaw = (s : Sizes) (j : List Event) (e : Event) → IsDeadlock s j → ¬ WellFormedNext s j e
