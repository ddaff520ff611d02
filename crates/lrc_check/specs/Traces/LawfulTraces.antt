-- Which sizes and events a trace may have.
use Rattle.std.specs.Prelude.{◌≡◌, ◌≢◌, ℕ, ◌^◌, ◌<◌, ◌≤◌, List, length, All}
use Rattle.journal.specs.declared.event.Event.{Event}
use Rattle.journal.specs.declared.event.Kind.{Kind}
use Rattle.journal.specs.declared.event.Kind.TheVariants.{Load, Store, Fetch}
use Rattle.journal.specs.Sizes.{Sizes}
use Rattle.journal.specs.WellFormed.{WellFormedKindInRange}
use Rattle.judge.specs.JudgedSizes.{most_judged_events}
use Rattle.lrc_check.specs.Traces.Sizes.{AreTraceSizes}
use Rattle.lrc_check.specs.Traces.TraceText.{trace_text}

-- events that a trace may have: so each place is a word
abbrev pub most_traced_events : ℕ
most_traced_events = most_judged_events

-- what is read, written or counted is a word
abbrev pub HasLawfulTraceWords : Kind → Type 0
HasLawfulTraceWords (Load a v) = v < 2 ^ 32
HasLawfulTraceWords (Store a v) = v < 2 ^ 32
HasLawfulTraceWords (Fetch w n r d) = (w < 2 ^ 32) × (r < 2 ^ 32) × (d < 2 ^ 32)
HasLawfulTraceWords _ = Unit {0}

-- each number that the event names is within the sizes
pub record IsWithinLawfulTrace (s : Sizes) (e : Event) : Type 0 where
  pub processor : e.processor < s.processors
  pub kind : WellFormedKindInRange s e.kind
  pub words : HasLawfulTraceWords e.kind

-- these are sizes that a trace may have, and events within them, no more than a trace may have
pub record IsLawfulTrace (s : Sizes) (es : List Event) : Type 0 where
  pub sizes : AreTraceSizes s
  pub few : length es ≤ most_traced_events
  pub events : All (IsWithinLawfulTrace s) es

-- the bytes are the text of no trace
abbrev pub IsNoLawfulTrace : List ℕ → Type 0
IsNoLawfulTrace bytes = (s : Sizes) (es : List Event) → IsLawfulTrace s es → bytes ≢ trace_text s es

-- they are the text of this trace at most
abbrev pub IsNoOtherLawfulTrace : List ℕ → Sizes → List Event → Type 0
IsNoOtherLawfulTrace bytes s es =
    (t : Sizes) (fs : List Event) → IsLawfulTrace t fs → bytes ≡ trace_text t fs → (t ≡ s) × (fs ≡ es)
