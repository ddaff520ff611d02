-- No line of a trace's text has two spaces in a row, so without its labels the text is the same.
use Rattle.std.proofs.Common.{◌≡◌, ℕ, false, zero, suc, ◌+◌, ◌≤◌, List, [], ◌∷◌, ◌++◌, length, map, take, refl, sym, ap, subst, ◌∙◌, append_assoc, arith}
use Rattle.std.specs.Prelude.{codes}
use Rattle.std.specs.List.{flat_map, AllByRecursion}
use Rattle.std.specs.Fmt.{decimal}
use Rattle.std.proofs.lemmas.List.{append_cancel_right, drop_all, take_all}
use Rattle.journal.specs.declared.event.Event.{Event}
use Rattle.journal.specs.Sizes.{Sizes}
use Rattle.lrc_script.specs.ScriptFaults.{IsLineSplit, IsWordOfLine}
use Rattle.lrc_script.proofs.Reading.Separators.{HasNoSeparator}
use Rattle.lrc_report.specs.ReportText.{report_event_text, report_events_text}
use Rattle.lrc_check.specs.Traces.Labels.{is_trace_line_passed_over, without_trace_labels, line_without_trace_label, trace_label_at, trace_line_label}
use Rattle.lrc_check.specs.Traces.Heads.{trace_head_numbers_of}
use Rattle.lrc_check.specs.Traces.Laws.{UnlabelledTraceLaw}
use Rattle.lrc_check.specs.Traces.Sizes.{AreTraceSizes}
use Rattle.lrc_check.specs.Traces.TraceLines.{IsTraceLineOfEvent}
use Rattle.lrc_check.proofs.traces.Labelling.{IsLabellingDoubleSpace, labelling_lines_next, labelling_double_space_before, labelling_absent}
use Rattle.lrc_check.proofs.traces.EventWords.{event_words_bytes, event_words_clean_bytes, event_words_of_line, event_words_split, event_words_are_line}
use Rattle.lrc_check.proofs.traces.TextParts.{AreTextPartsSmall, text_parts_head, text_parts_head_clean, text_parts_head_split, text_parts_small}

abbrev pub IsUnlabelledText : List ℕ → Type 0
IsUnlabelledText bytes = (k : ℕ) → ¬ IsLabellingDoubleSpace bytes k

-- a word, and what stands behind it
unlabelled_text_word : (w rest : List ℕ) → HasNoSeparator 32 w → IsUnlabelledText rest → IsUnlabelledText (w ++ rest)
unlabelled_text_word [] rest clean none k h = none k h
unlabelled_text_word (b ∷ w) rest clean none zero h = clean.0 h.0
unlabelled_text_word (b ∷ w) rest clean none (suc k) h =
    unlabelled_text_word w rest clean.1 none k (labelling_double_space_before b (w ++ rest) k (suc k) refl h)

-- words, with a space before each
unlabelled_text_words : (ws : List (List ℕ)) → AllByRecursion IsWordOfLine ws → IsUnlabelledText (flat_map (λ w. 32 ∷ w) ws)
unlabelled_text_words [] words k h = omega (arith, h.0)
unlabelled_text_words ([] ∷ ws) words k h = (let some = words.0.some in omega arith)
unlabelled_text_words ((b ∷ w) ∷ ws) words zero h = words.0.no_space.0 h.1
unlabelled_text_words ((b ∷ w) ∷ ws) words (suc k) h =
    let rest = flat_map (λ (x : List ℕ). 32 ∷ x) ws in
    unlabelled_text_word (b ∷ w) rest words.0.no_space (unlabelled_text_words ws words.1) k
    (labelling_double_space_before 32 ((b ∷ w) ++ rest) k (suc k) refl h)

-- a line of words has no label
unlabelled_text_at : (line w : List ℕ) (ws : List (List ℕ)) → IsLineSplit line w ws → trace_label_at line ≡ length line
unlabelled_text_at line w ws split =
    let none =
    subst IsUnlabelledText (sym split.whole)
    (unlabelled_text_word w (flat_map (λ v. 32 ∷ v) ws) split.first.no_space (unlabelled_text_words ws split.others)) in
    labelling_absent line (λ k some. none k)

unlabelled_text_split : (line w : List ℕ) (ws : List (List ℕ)) → IsLineSplit line w ws → line_without_trace_label line ≡ line
unlabelled_text_split line w ws split =
    let le : length line ≤ length line = omega arith in
    ap (λ (n : ℕ). take n line) (unlabelled_text_at line w ws split) ∙ take_all (length line) line le

-- nor has an event's line
unlabelled_text_of_event : (line : List ℕ) (place : ℕ) (e : Event) → IsTraceLineOfEvent line place e → trace_label_at line ≡ length line
unlabelled_text_of_event line place e is =
    let bytes : line ≡ event_words_bytes place e =
    append_cancel_right line (event_words_bytes place e) (10 ∷ []) (is.line_is ∙ event_words_are_line place e) in
    unlabelled_text_at line _ _ (subst (λ x. IsLineSplit x (codes "event") (event_words_of_line place e)) (sym bytes) (event_words_split place e is.small))

pub unlabelled_text_event_bare : (line : List ℕ) (place : ℕ) (e : Event) → IsTraceLineOfEvent line place e
    → line_without_trace_label line ≡ line
unlabelled_text_event_bare line place e is =
    let le : length line ≤ length line = omega arith in
    ap (λ (n : ℕ). take n line) (unlabelled_text_of_event line place e is) ∙ take_all (length line) line le

pub unlabelled_text_event_label : (line : List ℕ) (place : ℕ) (e : Event) → IsTraceLineOfEvent line place e
    → trace_line_label line ≡ []
unlabelled_text_event_label line place e is =
    let at = unlabelled_text_of_event line place e is in
    let le : length line ≤ trace_label_at line + 2 = omega arith in
    drop_all (trace_label_at line + 2) line le

-- ---- the line of the sizes

unlabelled_text_head : (s : Sizes) → AreTraceSizes s → line_without_trace_label (text_parts_head s) ≡ text_parts_head s
unlabelled_text_head s h =
    unlabelled_text_split (text_parts_head s) (codes "cluster") (map decimal (trace_head_numbers_of s))
    (text_parts_head_split s h)

-- ---- a line, and the text

unlabelled_text_line : (line more : List ℕ) → HasNoSeparator 10 line → is_trace_line_passed_over line ≡ false
    → line_without_trace_label line ≡ line → without_trace_labels more ≡ more
    → without_trace_labels (line ++ 10 ∷ more) ≡ line ++ 10 ∷ more
unlabelled_text_line line more clean told first others =
    labelling_lines_next line_without_trace_label line more clean told ∙ ap (λ (x : List ℕ). x ++ 10 ∷ without_trace_labels more) first
    ∙ ap (λ (x : List ℕ). line ++ 10 ∷ x) others

unlabelled_text_same : (a b : List ℕ) → a ≡ b → without_trace_labels b ≡ b → without_trace_labels a ≡ a
unlabelled_text_same a b same h = subst (λ (x : List ℕ). without_trace_labels x ≡ x) (sym same) h

unlabelled_text_events : (i : ℕ) (es : List Event) → AreTextPartsSmall i es → without_trace_labels (report_events_text i es) ≡ report_events_text i es
unlabelled_text_events i [] small = refl
unlabelled_text_events i (e ∷ es) small =
    let rest = report_events_text (i + 1) es in
    unlabelled_text_same (report_event_text i e ++ rest) (event_words_bytes i e ++ 10 ∷ rest)
    (ap (λ (t : List ℕ). t ++ rest) (event_words_are_line i e) ∙ append_assoc (event_words_bytes i e) (10 ∷ []) rest)
    (unlabelled_text_line (event_words_bytes i e) rest (event_words_clean_bytes i e small.0)
    (subst (λ (x : List ℕ). is_trace_line_passed_over x ≡ false) (sym (event_words_split i e small.0).whole) refl) (unlabelled_text_split _ _ _ (event_words_split i e small.0))
    (unlabelled_text_events (i + 1) es small.1))

pub unlabelled_text_of_trace : UnlabelledTraceLaw
unlabelled_text_of_trace s es h =
    let events = report_events_text 0 es in
    unlabelled_text_same ((text_parts_head s ++ 10 ∷ []) ++ events) (text_parts_head s ++ 10 ∷ events)
    (append_assoc (text_parts_head s) (10 ∷ []) events)
    (unlabelled_text_line (text_parts_head s) events (text_parts_head_clean s h.sizes)
    (subst (λ (x : List ℕ). is_trace_line_passed_over x ≡ false) (sym (text_parts_head_split s h.sizes).whole) refl) (unlabelled_text_head s h.sizes) (unlabelled_text_events 0 es (text_parts_small s es h)))
