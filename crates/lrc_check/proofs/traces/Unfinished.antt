-- A text that may end in the midst of a line, and whose first line doesn't end.
use Rattle.std.proofs.Common.{◌≡◌, ℕ, List, [], ◌∷◌, ◌++◌, refl, subst, ◌∙◌, append_assoc}
use Rattle.journal.specs.declared.event.Event.{Event}
use Rattle.lrc_script.proofs.Reading.Separators.{HasNoSeparator}
use Rattle.lrc_script.specs.ScriptLines.{script_cluster_line, script_line_bytes}
use Rattle.lrc_report.specs.ReportText.{report_events_text}
use Rattle.lrc_check.specs.Traces.Begun.{trace_text_so_far}
use Rattle.lrc_check.specs.Traces.FedText.{FedText, IsFedTextOf, IsNoUnfinishedTrace}
use Rattle.lrc_check.specs.Traces.Labels.{line_without_trace_label, without_trace_labels}
use Rattle.lrc_check.specs.Traces.Sizes.{trace_sizes_as_script}
use Rattle.lrc_check.specs.declared.traces.trace.TraceSizes.{TraceSizes}
use Rattle.std.specs.Prelude.{None, Option}
use Rattle.lrc_check.proofs.traces.Feeding.{feeding_text_whole}
use Rattle.lrc_check.proofs.traces.Labelling.{labelling_dropped_clean}

-- a separator stands among the bytes
separator_among : (c : ℕ) (xs ys : List ℕ) → ¬ HasNoSeparator c (xs ++ c ∷ ys)
separator_among c [] ys h = h.0 refl
separator_among c (x ∷ xs) ys h = separator_among c xs ys h.1

-- no line ends in it
pub unfinished_first_line : (line bytes : List ℕ) → HasNoSeparator 10 line → without_trace_labels (line ++ []) ≡ without_trace_labels (bytes ++ [])
    → IsNoUnfinishedTrace bytes
unfinished_first_line line bytes clean text s es lawful is =
    let first = script_line_bytes (script_cluster_line (trace_sizes_as_script s)) in
    let events = report_events_text 0 es in
    let all : line_without_trace_label line ≡ first ++ 10 ∷ (events ++ is.0) =
    feeding_text_whole [] line bytes clean text ∙ is.2 ∙ append_assoc (first ++ 10 ∷ []) events is.0 ∙ append_assoc first (10 ∷ []) (events ++ is.0) in
    absurd (separator_among 10 first (events ++ is.0) (subst (HasNoSeparator 10) all (labelling_dropped_clean line clean)))

-- of a reader that has read no line
pub unfinished_unread : (x : FedText) (bytes : List ℕ) (front : List Event) (told : List ℕ) → x.sizes ≡ None → HasNoSeparator 10 x.unfinished
    → IsFedTextOf bytes front told x → IsNoUnfinishedTrace bytes
unfinished_unread x bytes front told none clean fed =
    unfinished_first_line x.unfinished bytes clean
    (subst (λ (o : Option TraceSizes). trace_text_so_far o (front ++ x.events) ++ without_trace_labels (x.unfinished ++ []) ≡ without_trace_labels (bytes ++ []))
    none (fed.text []))
