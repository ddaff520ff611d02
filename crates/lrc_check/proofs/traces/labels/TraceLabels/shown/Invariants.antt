use Rattle.std.proofs.Common.{◌≡◌, ℕ, ◌+◌, [], Some, length, map, slice_get, slice_index_or}
use Rattle.std.specs.Global.{Vec}
use Rattle.lrc_script.specs.LineReading.{parts_of_read_line}
use Rattle.lrc_check.specs.Traces.Labels.{trace_event_label, trace_label_byte_shown}
use Rattle.lrc_check.proofs.traces.labels.TraceLabels.shown.Given as goal

-- as many labels are shown, and the lines behind theirs are left
abbrev pub invariant-loop : goal.invariant-loop
invariant-loop l = record {
  long : length l.shown.items ≡ l.counter;
  each : (k : ℕ) (v : Vec ℕ) → slice_get l.shown.items k ≡ Some v → v.items ≡ map trace_label_byte_shown (trace_event_label l.self k);
  behind : (n : ℕ) → slice_index_or (parts_of_read_line 10 l.behind) n [] ≡ slice_index_or (parts_of_read_line 10 l.self) (l.counter + n + 1) [];
}
