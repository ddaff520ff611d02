-- The numbers of a well formed history are within the sizes.
use Rattle.std.proofs.Common.{List, true, false}
use Rattle.journal.specs.declared.event.Event.{Event}
use Rattle.journal.specs.declared.event.Kind.{Kind}
use Rattle.journal.specs.declared.event.Kind.TheVariants.{Load, Store}
use Rattle.journal.specs.EventsInRange.{EventAddressInRange}
use Rattle.journal.specs.Sizes.{Sizes, addresses}
use Rattle.journal.specs.WellFormed.{WellFormedKindInRange}
use Rattle.judge.specs.LaxWellFormed.{LaxWellFormed}
use Rattle.judge.specs.HistoryRanges.{IsHistoryInRange, HistoryRangeLaw}
use Rattle.judge.proofs.Refusing.{refusing_lax_law}

-- the address of a kind in range is
pub history_range_address : (s : Sizes) (k : Kind) → WellFormedKindInRange s k → EventAddressInRange (addresses s) k
history_range_address s (Load a v) range = range
history_range_address s (Store a v) range = range
history_range_address s _ range = tt

lax_history_range : (s : Sizes) (j : List Event) → LaxWellFormed s j → IsHistoryInRange s j
lax_history_range s j well = record {
  processors = λ i e at. (well i e at).processor;
  addresses = λ i e at. history_range_address s e.kind (well i e at).in_range;
}

pub history_range_law : HistoryRangeLaw
history_range_law true s j well = lax_history_range s j well
history_range_law false s j well = lax_history_range s j (refusing_lax_law s j well)
