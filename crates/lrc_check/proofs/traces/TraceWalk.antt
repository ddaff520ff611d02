-- Reading from line to line through the bytes of a trace.
use Rattle.std.proofs.Common.{◌≡◌, ◌≢◌, ℕ, ◌+◌, ◌<◌, ◌≤◌, List, [], ◌∷◌, ◌++◌, Option, Some, None, length, refl, sym, ap, subst, ◌∙◌, append_assoc, append-nil, arith, inl, inr}
use Rattle.std.proofs.lemmas.List.{length-append}
use Rattle.std.proofs.lemmas.List.Elements.{All-nil, All-push}
use Rattle.journal.specs.declared.event.Event.{Event}
use Rattle.journal.specs.Sizes.{Sizes}
use Rattle.lrc_script.specs.ScriptFaults.{HasLine}
use Rattle.lrc_script.specs.LineReading.{IsLineReadOff}
use Rattle.lrc_script.proofs.Reading.Separators.{HasNoSeparator}
use Rattle.lrc_report.specs.ReportText.{report_event_text, report_events_text}
use Rattle.lrc_report.proofs.ReportLines.{report_lines_append}
use Rattle.lrc_check.specs.declared.traces.fault.TraceFault.{TraceFault}
use Rattle.lrc_check.specs.declared.traces.fault.TraceFault.TheVariants.{Truncated, NoMemory}
use Rattle.lrc_check.specs.declared.traces.trace.Trace.{Trace}
use Rattle.lrc_check.specs.declared.traces.trace.TraceSizes.{TraceSizes}
use Rattle.lrc_check.specs.Traces.Sizes.{AreTraceSizes, trace_sizes_of}
use Rattle.lrc_check.specs.Traces.TraceText.{trace_text_first_line, trace_text}
use Rattle.lrc_check.specs.Traces.LawfulTraces.{IsNoLawfulTrace, IsLawfulTrace, IsWithinLawfulTrace, most_traced_events}
use Rattle.lrc_check.specs.Traces.Begun.{AreTraceSizesKept, IsTraceBegun, trace_begun_text, trace_begun_line_number}
use Rattle.lrc_check.specs.Traces.TraceLines.{IsTraceLineOfEvent, TraceLineRead}
use Rattle.lrc_check.specs.Traces.TraceFaults.{BeginsTraceText, TraceFaultSaysNoSizes, TraceLineHasSizes, TraceFaultSaysOfHead, IsFaultyTraceLine, IsTraceFault, IsTraceFaultBehind, IsTraceFaultInHead, IsTraceFaultLasting, TraceFaultSaysOfLine, TraceFaultRefuses}
use Rattle.lrc_check.proofs.traces.Never.{never_begins}
use Rattle.lrc_check.proofs.traces.TextParts.{text_parts_first_due, text_parts_end_in_line_feed, text_parts_have_line_feed}

-- the sizes alone
pub trace_walk_start : (s : Sizes) → AreTraceSizes s → IsLawfulTrace s []
trace_walk_start s h = record { sizes = h; few = omega arith; events = All-nil (IsWithinLawfulTrace s) }

-- what was let go of stands before
trace_walk_front : (s : Sizes) (gone : ℕ) (front es fs : List Event) (line : List ℕ) → length front ≡ gone → TraceLineRead s gone es line fs
    → TraceLineRead s 0 (front ++ es) line (front ++ fs)
trace_walk_front s gone front es fs line long a =
    let count : gone + length es ≡ 0 + length (front ++ es) = omega (arith, long, length-append front es) in
    record {
      event = a.event;
      after_is = ap (λ (x : List Event). front ++ x) a.after_is ∙ sym (append_assoc front es (a.event ∷ []));
      line_is = subst (λ (n : ℕ). IsTraceLineOfEvent line n a.event) count a.line_is;
      within = a.within;
      room = subst (λ (n : ℕ). n < most_traced_events) count a.room;
    }

-- one event more
trace_walk_longer : (s : Sizes) (gone : ℕ) (es fs : List Event) (line : List ℕ) → IsLawfulTrace s es → TraceLineRead s gone es line fs
    → IsLawfulTrace s fs
trace_walk_longer s gone es fs line h a =
    subst (IsLawfulTrace s) (sym a.after_is) (record {
      sizes = h.sizes;
      few = omega (arith, a.room, length-append es (a.event ∷ []));
      events = All-push (IsWithinLawfulTrace s) es a.event h.events a.within;
    })

pub trace_walk_added : (s : Sizes) (gone : ℕ) (front es fs : List Event) (line : List ℕ)
    → (length front ≡ gone) × IsLawfulTrace s (front ++ es) → TraceLineRead s gone es line fs
    → (length front ≡ gone) × IsLawfulTrace s (front ++ fs)
trace_walk_added s gone front es fs line h a =
    (h.0, trace_walk_longer s 0 (front ++ es) (front ++ fs) line h.1 (trace_walk_front s gone front es fs line h.0 a))

-- one event more of those that are left
pub trace_walk_left : (s : Sizes) (gone : ℕ) (es fs : List Event) (line : List ℕ)
    → IsLawfulTrace s es × (gone + length es ≤ most_traced_events) → TraceLineRead s gone es line fs
    → IsLawfulTrace s fs × (gone + length fs ≤ most_traced_events)
trace_walk_left s gone es fs line h a = (
  trace_walk_longer s gone es fs line h.0 a,
  omega (arith, a.room, ap (λ (x : List Event). length x) a.after_is, length-append es (a.event ∷ [])),
)

trace_walk_longer_text : (s : Sizes) (es fs : List Event) (line : List ℕ) → TraceLineRead s 0 es line fs
    → trace_text s fs ≡ trace_text s es ++ (line ++ 10 ∷ [])
trace_walk_longer_text s es fs line a =
    let lines : report_events_text 0 fs ≡ report_events_text 0 es ++ (line ++ 10 ∷ []) =
    ap (report_events_text 0) a.after_is ∙ report_lines_append 0 es (a.event ∷ [])
    ∙ ap (λ (x : List ℕ). report_events_text 0 es ++ x)
    (append-nil (report_event_text (0 + length es) a.event) ∙ sym a.line_is.line_is) in
    ap (λ (x : List ℕ). trace_text_first_line s ++ x) lines
    ∙ sym (append_assoc (trace_text_first_line s) (report_events_text 0 es) (line ++ 10 ∷ []))

pub trace_walk_added_text : (s : Sizes) (gone : ℕ) (front es fs : List Event) (line : List ℕ) → length front ≡ gone
    → TraceLineRead s gone es line fs → trace_text s (front ++ fs) ≡ trace_text s (front ++ es) ++ (line ++ 10 ∷ [])
trace_walk_added_text s gone front es fs line long a =
    trace_walk_longer_text s (front ++ es) (front ++ fs) line (trace_walk_front s gone front es fs line long a)

-- sizes that stay
pub trace_walk_sizes_kept : (a b c : Option TraceSizes) → AreTraceSizesKept a b → AreTraceSizesKept b c → AreTraceSizesKept a c
trace_walk_sizes_kept None b c first second = tt
trace_walk_sizes_kept (Some s) b c first second = subst (λ (o : Option TraceSizes). AreTraceSizesKept o c) first second

-- a line among the bytes, and what stands behind it
pub trace_walk_line_among : (before bytes line after : List ℕ) → IsLineReadOff bytes line after
    → before ++ bytes ≡ (before ++ (line ++ 10 ∷ [])) ++ after
trace_walk_line_among before bytes line after cut =
    ap (λ (x : List ℕ). before ++ x) (cut.bytes_are ∙ sym (append_assoc line (10 ∷ []) after))
    ∙ sym (append_assoc before (line ++ 10 ∷ []) after)

-- nothing stands behind a line feed at the end
trace_walk_line_feed_there : (xs : List ℕ) → HasNoSeparator 10 (xs ++ 10 ∷ []) → ⊥
trace_walk_line_feed_there [] clean = clean.0 refl
trace_walk_line_feed_there (x ∷ xs) clean = trace_walk_line_feed_there xs clean.1

pub trace_walk_nothing_behind : (xs ys rest : List ℕ) → HasNoSeparator 10 rest → xs ++ rest ≡ ys ++ 10 ∷ [] → rest ≡ []
trace_walk_nothing_behind [] ys rest clean same = absurd (trace_walk_line_feed_there ys (subst (HasNoSeparator 10) same clean))
trace_walk_nothing_behind (x ∷ xs) [] [] clean same = refl
trace_walk_nothing_behind (x ∷ xs) [] (r ∷ rest) clean same =
    absurd (omega (arith, ap (λ (t : List ℕ). length t) same, length-append xs (r ∷ rest)))
trace_walk_nothing_behind (x ∷ xs) (y ∷ ys) rest clean same =
    trace_walk_nothing_behind xs ys rest clean (let others : xs ++ rest ≡ ys ++ 10 ∷ [] = cc in others)

-- ---- a line that adds no event

trace_walk_bad_line : (f : TraceFault) (s : Sizes) (es : List Event) (rest line more : List ℕ) → IsLawfulTrace s es
    → IsLineReadOff rest line more → TraceFaultSaysOfLine f s (length es) line → IsFaultyTraceLine (trace_text s es) rest (TraceFaultSaysOfLine f s (length es))
trace_walk_bad_line f s es rest line more h cut says = record {
  line = line;
  more = more;
  cut = cut;
  holds = says;
  never = never_begins f s es line h cut.one_line says;
}

trace_walk_has_line : (rest line more : List ℕ) → IsLineReadOff rest line more → HasLine rest
trace_walk_has_line rest line more cut =
    record { line = line; more = more; rest_is = cut.bytes_are; one_line = cut.one_line }

pub trace_walk_line_refused : (f : TraceFault) (s : Sizes) (es : List Event) (rest line more : List ℕ) → IsLawfulTrace s es
    → IsLineReadOff rest line more → TraceFaultRefuses f s (length es) line → IsTraceFaultBehind f s es rest
trace_walk_line_refused NoMemory s es rest line more h cut says = trace_walk_has_line rest line more cut
trace_walk_line_refused Truncated s es rest line more h cut says = absurd says.3
trace_walk_line_refused f s es rest line more h cut says = trace_walk_bad_line f s es rest line more h cut says

-- ---- the first line

trace_walk_sizeless_line : (line : List ℕ) → HasNoSeparator 10 line → ((s : Sizes) → ¬ TraceLineHasSizes line s) → BeginsTraceText (line ++ 10 ∷ []) → ⊥
trace_walk_sizeless_line line clean none begins =
    let due = text_parts_first_due line clean begins in
    none due.0 (record { sizes = due.1; line_is = ap (λ (x : List ℕ). x ++ 10 ∷ []) due.2 })

trace_walk_bad_head : (f : TraceFault) (bytes line more : List ℕ) → IsLineReadOff bytes line more
    → TraceFaultSaysOfHead f line × ((s : Sizes) → ¬ TraceLineHasSizes line s) → IsFaultyTraceLine [] bytes (TraceFaultSaysOfHead f)
trace_walk_bad_head f bytes line more cut h =
    record { line = line; more = more; cut = cut; holds = h.0; never = trace_walk_sizeless_line line cut.one_line h.1 }

pub trace_walk_head_fault : (f : TraceFault) (bytes line more : List ℕ) → IsLineReadOff bytes line more → TraceFaultSaysNoSizes f line
    → IsTraceFaultInHead f bytes
trace_walk_head_fault NoMemory bytes line more cut h = trace_walk_has_line bytes line more cut
trace_walk_head_fault Truncated bytes line more cut h = absurd h.0
trace_walk_head_fault f bytes line more cut h = trace_walk_bad_head f bytes line more cut h

-- ---- a fault is answered only where the bytes are no trace's text

trace_walk_bad_line_only : (before rest bytes : List ℕ) (Holds : List ℕ → Type 0) → bytes ≡ before ++ rest
    → IsFaultyTraceLine before rest Holds → IsNoLawfulTrace bytes
trace_walk_bad_line_only before rest bytes Holds whole bad s es h same =
    bad.never (
      s,
      es,
      h,
      bad.more,
      sym same ∙ whole
          ∙ ap (λ (x : List ℕ). before ++ x)
          (bad.cut.bytes_are ∙ sym (append_assoc bad.line (10 ∷ []) bad.more))
          ∙ sym (append_assoc before (bad.line ++ 10 ∷ []) bad.more),
    )

trace_walk_head_fault_only : (f : TraceFault) (bytes : List ℕ) → f ≢ NoMemory → IsTraceFaultInHead f bytes → IsNoLawfulTrace bytes
trace_walk_head_fault_only NoMemory bytes ne h = absurd (ne refl)
trace_walk_head_fault_only Truncated bytes ne h = λ s es trace same. text_parts_have_line_feed s es trace (subst (HasNoSeparator 10) same h)
trace_walk_head_fault_only f bytes ne h = trace_walk_bad_line_only [] bytes bytes (TraceFaultSaysOfHead f) refl h

trace_walk_fault_behind_only : (f : TraceFault) (s : Sizes) (es : List Event) (rest bytes : List ℕ) → f ≢ NoMemory → IsLawfulTrace s es
    → bytes ≡ trace_text s es ++ rest → IsTraceFaultBehind f s es rest → IsNoLawfulTrace bytes
trace_walk_fault_behind_only NoMemory s es rest bytes ne begun whole h = absurd (ne refl)
trace_walk_fault_behind_only Truncated s es rest bytes ne begun whole h =
    λ t fs trace same.
    let none = text_parts_end_in_line_feed s t es fs rest begun trace h.0 (sym same ∙ whole) in
    omega (arith, ap (λ (x : List ℕ). length x) none, h.1)
trace_walk_fault_behind_only f s es rest bytes ne begun whole h = trace_walk_bad_line_only (trace_text s es) rest bytes (TraceFaultSaysOfLine f s (length es)) whole h

pub trace_walk_fault_only : (f : TraceFault) (bytes : List ℕ) (n : ℕ) → IsTraceFault bytes n f → f ≢ NoMemory → IsNoLawfulTrace bytes
trace_walk_fault_only f bytes n (inl h) ne = trace_walk_head_fault_only f bytes ne h.1
trace_walk_fault_only f bytes n (inr h) ne = trace_walk_fault_behind_only f h.0 h.1.events h.1.rest bytes ne h.1.begun h.1.whole h.1.behind

-- ---- a fault that lasts, however the bytes go on

trace_walk_line_read_off : (line more : List ℕ) → HasNoSeparator 10 line → IsLineReadOff ((line ++ 10 ∷ []) ++ more) line more
trace_walk_line_read_off line more clean = record { bytes_are = append_assoc line (10 ∷ []) more; one_line = clean }

pub trace_walk_first_fault : (f : TraceFault) (line : List ℕ) → HasNoSeparator 10 line → TraceFaultSaysNoSizes f line
    → IsTraceFaultLasting (line ++ 10 ∷ []) 1 f
trace_walk_first_fault f line clean h more =
    inl (refl, trace_walk_head_fault f ((line ++ 10 ∷ []) ++ more) line more (trace_walk_line_read_off line more clean) h)

pub trace_walk_next_fault : (f : TraceFault) (s : Sizes) (es : List Event) (line : List ℕ) → IsLawfulTrace s es → HasNoSeparator 10 line
    → TraceFaultRefuses f s (length es) line → IsTraceFaultLasting (trace_text s es ++ (line ++ 10 ∷ [])) (length es + 2) f
trace_walk_next_fault f s es line h clean says more =
    let rest = (line ++ 10 ∷ []) ++ more in
    inr (
      s,
      record {
        events = es;
        rest = rest;
        begun = h;
        whole = append_assoc (trace_text s es) (line ++ 10 ∷ []) more;
        number = refl;
        behind = trace_walk_line_refused f s es rest line more h (trace_walk_line_read_off line more clean) says;
      },
    )

-- behind events that were let go of
pub trace_walk_fault_behind : (f : TraceFault) (s : Sizes) (gone : ℕ) (front es : List Event) (line : List ℕ)
    → (length front ≡ gone) × IsLawfulTrace s (front ++ es) → HasNoSeparator 10 line → TraceFaultRefuses f s (gone + length es) line
    → IsTraceFaultLasting (trace_text s (front ++ es) ++ (line ++ 10 ∷ [])) (gone + length es + 2) f
trace_walk_fault_behind f s gone front es line h clean says =
    let count : gone + length es ≡ length (front ++ es) = omega (arith, h.0, length-append front es) in
    subst (λ (n : ℕ). IsTraceFaultLasting (trace_text s (front ++ es) ++ (line ++ 10 ∷ [])) (n + 2) f) (sym count)
    (trace_walk_next_fault f s (front ++ es) line h.1 clean (subst (λ (n : ℕ). TraceFaultRefuses f s n line) count says))

-- there is no line, or the last one has no line feed
pub trace_walk_rest_fault : (gone : ℕ) (front : List Event) (begun : Option Trace) (rest : List ℕ) → IsTraceBegun gone front begun
    → HasNoSeparator 10 rest → (begun ≢ None → 0 < length rest)
    → IsTraceFault (trace_begun_text front begun ++ rest) (trace_begun_line_number gone begun) Truncated
trace_walk_rest_fault gone front None rest h clean some = inl (refl, clean)
trace_walk_rest_fault gone front (Some t) rest h clean some =
    inr (
      trace_sizes_of t.sizes,
      record {
        events = front ++ t.events.items;
        rest = rest;
        begun = h.1;
        whole = refl;
        number = omega (arith, h.0, length-append front t.events.items);
        behind = (clean, some (λ e. absurd cc));
      },
    )
