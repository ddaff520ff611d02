use Rattle.std.proofs.Common.{◌≡◌, ℕ, List, ◌++◌, length}
use Rattle.journal.specs.declared.event.Event.{Event}
use Rattle.lrc_check.specs.Traces.Begun.{IsTraceBegun, IsTraceReadOn, trace_begun_line_count, trace_begun_text}
use Rattle.lrc_check.specs.Traces.LabelLines.{AreTraceLabelsBehind}
use Rattle.lrc_check.specs.Traces.Labels.{ArePassedOver, without_trace_labels, trace_labels_of}
use Rattle.lrc_check.proofs.traces.trace_lines.read_trace_lines.Given as goal

-- the lines so far and their labels, and what is left of the bytes
abbrev pub invariant-loop-line : goal.invariant-loop-line
invariant-loop-line l = record {
  on : IsTraceReadOn l.gone l.fn.begun l.begun;
  behind : (before : List ℕ) × (l.fn.bytes ≡ before ++ l.rest);
  text : (front : List Event) → IsTraceBegun l.gone front l.fn.begun → (more : List ℕ)
      → trace_begun_text front l.begun ++ without_trace_labels (l.rest ++ more)
      ≡ trace_begun_text front l.fn.begun ++ without_trace_labels (l.fn.bytes ++ more);
  lines : (n : ℕ) → AreTraceLabelsBehind n (trace_begun_line_count l.fn.begun) l.fn.labels
      → AreTraceLabelsBehind n (trace_begun_line_count l.begun) l.labels;
  labels : (more : List ℕ) → l.labels ++ trace_labels_of (l.rest ++ more) ≡ l.fn.labels ++ trace_labels_of (l.fn.bytes ++ more);
  passed : ArePassedOver l.fn.passed l.fn.bytes l.passed l.rest;
}

abbrev pub decreases-loop-line : goal.decreases-loop-line
decreases-loop-line l = length l.rest
