-- A trace that is judged as it is read.
use Rattle.std.specs.Prelude.{ℕ, ◌≡◌, ◌≤◌, IsTrue, Option, Some, None, MatchOption, List, [], ◌++◌, length, take}
use Rattle.journal.specs.declared.event.Event.{Event}
use Rattle.journal.specs.Sizes.{Sizes}
use Rattle.judge.specs.JudgedSizes.{judged_sizes_of}
use Rattle.lrc_check.specs.declared.checked.Checked.{Checked}
use Rattle.lrc_check.specs.declared.checked.Rules.{Rules}
use Rattle.lrc_check.specs.declared.history_judge.HistoryJudge.{HistoryJudge}
use Rattle.lrc_check.specs.declared.trace_stream.TraceStream.{TraceStream}
use Rattle.lrc_check.specs.declared.traces.trace.TraceSizes.{TraceSizes}
use Rattle.lrc_check.specs.CheckVerdicts.{IsTrueCheckVerdict}
use Rattle.lrc_check.specs.HistoryJudge.{IsHistoryEndWithin, IsHistoryJudgeOf}
use Rattle.lrc_check.specs.Traces.Begun.{IsTraceSoFar}
use Rattle.lrc_check.specs.Traces.FedText.{IsFedTextOf}
use Rattle.lrc_check.specs.Traces.Labels.{without_trace_labels}
use Rattle.lrc_check.specs.Traces.LawfulTraces.{IsLawfulTrace}
use Rattle.lrc_check.specs.Traces.Sizes.{trace_sizes_of}
use Rattle.lrc_check.specs.Traces.TraceText.{trace_text}
use Rattle.lrc_check.specs.Unprotected.{may_unprotected_be_sought}

-- the judge is one by these rules of a trace of these sizes, and was told these events
pub record IsStreamJudgeOf (r : Rules) (sizes : Option TraceSizes) (j : List Event) (h : HistoryJudge) : Type 0 where
  pub known : TraceSizes
  pub sizes_are : sizes ≡ Some known
  pub judged_sizes : judged_sizes_of h.judge.sizes ≡ trace_sizes_of known
  pub rules_are : h.rules ≡ r
  pub judged : IsHistoryJudgeOf j h

-- there is no judge before the line of the sizes
abbrev pub IsStreamJudge : Rules → Option TraceSizes → List Event → Option HistoryJudge → Type 0
IsStreamJudge r sizes j judge = MatchOption judge ((sizes ≡ None) × (j ≡ [])) (IsStreamJudgeOf r sizes j)

-- of these bytes this was read, where these events and labels were let go of, and the judge was told all events
pub record IsTraceStreamOf (bytes : List ℕ) (front : List Event) (told : List ℕ) (x : TraceStream) : Type 0 where
  pub read : IsFedTextOf bytes front told x.reader
  pub judged : IsStreamJudge x.rules x.reader.sizes (front ++ x.reader.events) x.judge

-- these bytes were read and judged
abbrev pub IsTraceStream : List ℕ → TraceStream → Type 0
IsTraceStream bytes x = (front : List Event) × (told : List ℕ) × IsTraceStreamOf bytes front told x

-- the reader has read on, and the judge was told so many of the events that it has; without a judge there were none
pub record HasStreamReadOn (front : List Event) (seen : ℕ) (x : TraceStream) : Type 0 where
  pub trace : IsTraceSoFar x.reader.sizes x.reader.gone front x.reader.events
  pub within : seen ≤ length x.reader.events
  pub judged : MatchOption x.judge (front ++ take seen x.reader.events ≡ [])
      (IsStreamJudgeOf x.rules x.reader.sizes (front ++ take seen x.reader.events))

-- judging ended with one of these events of a trace of these sizes
pub record IsStreamEndOf (r : Rules) (sizes : Option TraceSizes) (j : List Event) (found : Checked) : Type 0 where
  pub known : TraceSizes
  pub sizes_are : sizes ≡ Some known
  pub end : IsHistoryEndWithin r (trace_sizes_of known) j found

-- the judge was told these events, and its race is the one that was found
pub record HasStreamJudgedAll (r : Rules) (sizes : Option TraceSizes) (j : List Event) (found : Checked) (judge : Option HistoryJudge) : Type 0 where
  pub by : HistoryJudge
  pub is : judge ≡ Some by
  pub told : IsStreamJudgeOf r sizes j by
  pub race : found.race ≡ by.judge.race

-- this is found of the events that were read, of a trace of these sizes; if it is faithful, by all of them
pub record IsFoundInStream (front : List Event) (found : Checked) (x : TraceStream) : Type 0 where
  pub known : TraceSizes
  pub sizes_are : x.reader.sizes ≡ Some known
  pub trace : IsTraceSoFar x.reader.sizes x.reader.gone front x.reader.events
  pub says : IsTrueCheckVerdict x.rules (trace_sizes_of known) (front ++ x.reader.events) found
  pub judge : IsTrue (may_unprotected_be_sought found.verdict)
      → HasStreamJudgedAll x.rules x.reader.sizes (front ++ x.reader.events) found x.judge

-- the bytes begin, without their labels, with the text of a trace, and judging ended with one of its events
pub record IsStreamEnd (r : Rules) (bytes : List ℕ) (found : Checked) : Type 0 where
  pub sizes : Sizes
  pub events : List Event
  pub trace : IsLawfulTrace sizes events
  pub begins : (more : List ℕ) → (rest : List ℕ) × (without_trace_labels (bytes ++ more) ≡ trace_text sizes events ++ rest)
  pub end : IsHistoryEndWithin r sizes events found
