-- The arrivals that stand for what was cut off.
use Rattle.std.specs.Prelude.{ℕ, ◌≡◌, ◌<◌, List, length}
use Rattle.journal.specs.declared.event.Event.{Event}
use Rattle.journal.specs.declared.event.Kind.TheVariants.{Arrive}
use Rattle.journal.specs.WellFormed.{Does}

-- one of each processor, in order
pub record IsOpening (processors : ℕ) (xs : List Event) : Type 0 where
  pub long : length xs ≡ processors
  pub each : (p : ℕ) → p < processors → Does xs p p Arrive
