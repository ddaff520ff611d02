-- The numbers of a well formed history.
use Rattle.std.specs.Prelude.{Bool, List}
use Rattle.journal.specs.declared.event.Event.{Event}
use Rattle.journal.specs.Sizes.{Sizes, addresses}
use Rattle.journal.specs.EventsInRange.{EventAddressesInRange, EventProcessorsInRange}
use Rattle.judge.specs.LaxWellFormed.{WellFormedOrLax}

-- its processors and addresses are those of the cluster
pub record IsHistoryInRange (s : Sizes) (j : List Event) : Type 0 where
  pub processors : EventProcessorsInRange s.processors j
  pub addresses : EventAddressesInRange (addresses s) j

-- where it is well formed, lax or not
abbrev pub HistoryRangeLaw : Type 0
HistoryRangeLaw = (lax : Bool) (s : Sizes) (j : List Event) → WellFormedOrLax lax s j → IsHistoryInRange s j
