-- Calls that close the interval.
use Rattle.std.specs.Prelude.{◌≡◌, ◌+◌, Bool, true, false, Option, None, List, [], ◌∷◌, length, slice_index_or}
use Rattle.journal.specs.declared.event.Kind.{Kind}
use Rattle.journal.specs.declared.event.Kind.TheVariants.{Ask, Release}
use Rattle.journal.specs.DidEvent.{event}
use Rattle.journal.specs.Events.{event_closes}
use Rattle.journal.specs.WellFormed.{WellFormedKindInRange}
use Rattle.book.specs.declared.refused.Refused.{Refused}
use Rattle.cluster.specs.Copies.Local.{Local}
use Rattle.cluster.specs.Copies.AfterNews.{handed_after_news, closed_after_news}
use Rattle.cluster.specs.ProcessorRefusals.{processor_refusal_or_spent}
use Rattle.cluster.specs.ProcessorCalls.{IsProcessorCall, ProcessorCallWaitsForNothing}

-- the block was handed in, and the interval closed by this event
abbrev pub IsClosedByCall : Kind → Local → Local → Type 0
IsClosedByCall k m n = n ≡ closed_after_news (handed_after_news m) k

-- the locks that a processor holds let it do this
abbrev pub MayHoldInClosingCall : List Bool → Kind → Type 0
MayHoldInClosingCall held (Ask l) = slice_index_or held l false ≡ false
MayHoldInClosingCall held (Release l) = slice_index_or held l false ≡ true
MayHoldInClosingCall held _ = Unit {0}

-- and nothing else is in its way
pub record MayCloseByCall (m : Local) (k : Kind) : Type 0 where
  pub closes : event_closes k ≡ true
  pub in_range : WellFormedKindInRange m.sizes k
  pub idle : m.awaits ≡ None
  pub held : MayHoldInClosingCall m.held k

-- a call that closes the interval by this event, if the test finds no reason against it
abbrev pub IsClosingCall : Option Refused → Kind → Local → Local → Option Refused → Type 0
IsClosingCall test k old new refused =
    IsProcessorCall (processor_refusal_or_spent test old) (length old.block + 1) ProcessorCallWaitsForNothing (IsClosedByCall k) (event old.number k ∷ []) old new refused
