-- The labels of the events that a reader has at hand, as they are told.
use Rattle.std.proofs.Common.{◌≡◌, ◌∙◌, ℕ, ◌+◌, ◌-◌, ◌<◌, ◌≤◌, Bool, cond, true, false, if◌then◌else◌, List, [], ◌++◌, Option, Some, None, refl, ap, append-nil, length, nat_lt, slice_index_or, arith}
use Rattle.std.proofs.lemmas.Bool.{le-ltb}
use Rattle.std.proofs.lemmas.List.{length-append}
use Rattle.journal.specs.declared.event.Event.{Event}
use Rattle.lrc_script.specs.LineReading.{parts_of_read_line}
use Rattle.lrc_check.specs.declared.told_events.ToldEvents.{ToldEvents}
use Rattle.lrc_check.specs.declared.traces.trace.TraceSizes.{TraceSizes}
use Rattle.lrc_check.specs.ToldLines.{told_label}
use Rattle.lrc_check.specs.Traces.Begun.{IsTraceSoFar}
use Rattle.lrc_check.specs.Traces.FedText.{FedText, IsFedTextOf}
use Rattle.lrc_check.specs.Traces.LabelLines.{AreTraceLabelsLeft, trace_line_count}
use Rattle.lrc_check.specs.Traces.Labels.{trace_event_label, trace_labels_of}
use Rattle.lrc_check.proofs.traces.LabelLines.{label_lines_of_event}

-- there is no event before the line of the sizes
read_label_lines : (sizes : Option TraceSizes) (headed : Bool) (gone : ℕ) (front es : List Event) (told left : List ℕ)
    (index : ℕ) → index < length es → IsTraceSoFar sizes gone front es
    → AreTraceLabelsLeft headed gone (trace_line_count sizes es) told left
    → AreTraceLabelsLeft headed gone (length es + 1) told left
read_label_lines None headed gone front es told left index less h lines =
    let none : length (front ++ es) ≡ 0 = ap length h.1 in
    absurd (omega (arith, less, none, length-append front es))
read_label_lines (Some s) headed gone front es told left index less h lines = lines

read_label_at : (headed : Bool) (labels : List ℕ) (index : ℕ)
    → (if headed then trace_event_label labels index else slice_index_or (parts_of_read_line 10 labels) index [])
    ≡ slice_index_or (parts_of_read_line 10 labels) (cond headed (index + 1) index) []
read_label_at true labels index = refl
read_label_at false labels index = refl

-- what is told of a reader as its events' labels are theirs
pub read_label_told : (t : ToldEvents) (x : FedText) (bytes : List ℕ) (front : List Event) (told : List ℕ)
    → t.gone ≡ x.gone → t.headed ≡ x.headed → t.labels.now ≡ x.labels → IsFedTextOf bytes front told x
    → (place : ℕ) → x.gone ≤ place → place < x.gone + length x.events
    → told_label t place ≡ trace_event_label (trace_labels_of bytes) place
read_label_told t x bytes front told gone headed labels h place from less =
    let index = place - x.gone in
    let back : x.gone + index ≡ place = omega (arith, from) in
    let within : index < length x.events = omega (arith, from, less) in
    let past : nat_lt place x.gone ≡ false = le-ltb place x.gone from in
    rw (gone, headed, labels, past)
    (read_label_at x.headed x.labels index
    ∙ label_lines_of_event x.headed x.gone (length x.events) index told x.labels
    (trace_labels_of (x.unfinished ++ [])) (trace_labels_of bytes)
    (read_label_lines x.sizes x.headed x.gone front x.events told x.labels index within h.trace h.lines) within
    (h.labels [] ∙ ap trace_labels_of (append-nil bytes))
    ∙ ap (trace_event_label (trace_labels_of bytes)) back)
