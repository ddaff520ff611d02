-- What of a trace is told.
use Rattle.std.specs.Prelude.{ℕ, ◌≡◌, suc, Bool, true, false, IfSome, List, is_some, length, take}
use Rattle.journal.specs.declared.event.Event.{Event}
use Rattle.journal.specs.Races.{Race}
use Rattle.journal.specs.Sizes.{Sizes}
use Rattle.judge.specs.declared.models.MemoryModel.{MemoryModel}
use Rattle.judge.specs.JudgedSizes.{judged_sizes_of}
use Rattle.lrc_check.specs.declared.checked.TraceVerdict.{TraceVerdict}
use Rattle.lrc_check.specs.declared.checked.TraceVerdict.TheVariants as verdict
use Rattle.lrc_check.specs.declared.telling_traces.ToldTrace.{ToldTrace}
use Rattle.lrc_check.specs.Traces.Labels.{AreTraceLabelsShown}
use Rattle.lrc_check.specs.Faithful.{IsFaithfulAndCounted, IsFaithfulOnlyUpTo}

-- whether a lie was found
abbrev pub is_told_trace_a_lie : TraceVerdict → Bool
is_told_trace_a_lie (verdict.Lie x) = true
is_told_trace_a_lie _ = false

-- of a history that lies, its events up to the first that no such memory makes, and with it; of a faithful one all
abbrev pub IsToldTraceUpToLie : Bool → MemoryModel → Bool → Sizes → List Event → List Event → Type 0
IsToldTraceUpToLie true m lax s j told = (k : ℕ) × IsFaithfulOnlyUpTo m lax s j k × (told ≡ take (suc k) j)
IsToldTraceUpToLie false m lax s j told = IsFaithfulAndCounted m lax s j × (told ≡ j)

-- these events of the history are told, of its sizes, as a lie exactly if the last one is, with their labels, and a race of
-- theirs if there is one
pub record IsTraceTold (m : MemoryModel) (lax : Bool) (s : Sizes) (j : List Event) (labels : List ℕ) (t : ToldTrace)
    : Type 0 where
  pub sizes : judged_sizes_of t.history.sizes ≡ s
  pub events : IsToldTraceUpToLie (is_some t.lie) m lax s j t.history.events
  pub shown : AreTraceLabelsShown labels (length t.history.events) t.labels
  pub race : IfSome t.race (λ r. Race t.history.events r.0 r.1)
