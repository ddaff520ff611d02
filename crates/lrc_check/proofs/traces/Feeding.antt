-- What is read of a text that comes line by line and piece by piece, with its labels.
use Rattle.std.proofs.Common.{◌≡◌, ◌≢◌, ℕ, ◌+◌, Bool, true, false, ◌&&◌, List, [], ◌∷◌, ◌++◌, Option, Some, None, refl, sym, ap, subst, ◌∙◌, append_assoc, append-nil, length, arith}
use Rattle.std.specs.Prelude.{is_none}
use Rattle.std.proofs.lemmas.List.{length-append}
use Rattle.journal.specs.declared.event.Event.{Event}
use Rattle.journal.specs.Sizes.{Sizes}
use Rattle.lrc_script.specs.LineReading.{IsLineReadOff}
use Rattle.lrc_script.proofs.Reading.Separators.{HasNoSeparator}
use Rattle.lrc_check.specs.declared.traces.fault.TraceFault.{TraceFault}
use Rattle.lrc_check.specs.declared.traces.fault.TraceFault.TheVariants.{NoMemory}
use Rattle.lrc_check.specs.declared.traces.trace.Trace.{Trace}
use Rattle.lrc_check.specs.Traces.Begun.{IsTraceBegun, IsTraceLeft, IsTraceSoFar, trace_begun_events, trace_begun_line_count, trace_begun_line_number, trace_begun_sizes, trace_begun_text, trace_text_so_far}
use Rattle.lrc_check.specs.Traces.TraceFaults.{IsTraceFaultLasting, IsTraceFault}
use Rattle.lrc_check.specs.Traces.FedText.{FedTextBeginsTrace, IsUnfinishedTrace, IsFedTextOf, IsFedTextWhole, FedTextFaultStays, FedText, HasReadFedText, fed_text_labels_with, fed_text_line_number, fed_text_with}
use Rattle.lrc_check.specs.Traces.LawfulTraces.{IsLawfulTrace}
use Rattle.lrc_check.specs.Traces.LabelLines.{AreTraceLabelsLeft, trace_line_count}
use Rattle.lrc_check.specs.Traces.RefusedLines.{IsFedLineRefused, IsLineRefused}
use Rattle.lrc_check.specs.Traces.Labels.{ArePassedOver, is_trace_line_passed_over, without_trace_labels, line_without_trace_label, trace_label_by_lines, trace_labels_of}
use Rattle.lrc_check.specs.Traces.Sizes.{trace_sizes_of}
use Rattle.lrc_check.proofs.traces.LabelLines.{label_lines_let_go, label_lines_unread}
use Rattle.lrc_check.proofs.traces.TextParts.{text_parts_of_no_other_trace}
use Rattle.lrc_check.specs.Traces.TraceText.{trace_text}
use Rattle.lrc_check.proofs.traces.Labelling.{labelling_dropped_clean, labelling_lines_last, labelling_lines_passed_on, labelling_lines_read_on}
use Rattle.lrc_check.proofs.traces.PassedOver.{passed_over_further}
use Rattle.lrc_check.proofs.traces.TraceWalk.{trace_walk_fault_behind, trace_walk_fault_only, trace_walk_first_fault}

-- ---- a line

-- a line was read, and changed as its text is
pub feeding_line_kept : (change : List ℕ → List ℕ) (before now bytes line after : List ℕ) (whole : List ℕ → List ℕ)
    → IsLineReadOff bytes line after → is_trace_line_passed_over line ≡ false → now ≡ before ++ (change line ++ 10 ∷ [])
    → ((more : List ℕ) → before ++ trace_label_by_lines change (bytes ++ more) ≡ whole more)
    → (more : List ℕ) → now ++ trace_label_by_lines change (after ++ more) ≡ whole more
feeding_line_kept change before now bytes line after whole cut kept same was more =
    labelling_lines_read_on change before now bytes line after more cut kept same ∙ was more

-- a line was passed over
pub feeding_line_passed : (change : List ℕ → List ℕ) (before bytes line after : List ℕ) (whole : List ℕ → List ℕ)
    → IsLineReadOff bytes line after → is_trace_line_passed_over line ≡ true
    → ((more : List ℕ) → before ++ trace_label_by_lines change (bytes ++ more) ≡ whole more)
    → (more : List ℕ) → before ++ trace_label_by_lines change (after ++ more) ≡ whole more
feeding_line_passed change before bytes line after whole cut passed was more =
    labelling_lines_passed_on change before bytes line after more cut passed ∙ was more

-- it has a fault
pub feeding_line_fault : (f : TraceFault) (n : ℕ) (before bytes line after : List ℕ) (whole : List ℕ → List ℕ)
    → IsLineReadOff bytes line after → is_trace_line_passed_over line ≡ false
    → IsTraceFaultLasting (before ++ (line_without_trace_label line ++ 10 ∷ [])) n f
    → ((more : List ℕ) → before ++ without_trace_labels (bytes ++ more) ≡ whole more)
    → (more : List ℕ) → IsTraceFault (whole more) n f
feeding_line_fault f n before bytes line after whole cut kept lasts was more =
    subst (λ (x : List ℕ). IsTraceFault x n f)
    (feeding_line_kept line_without_trace_label before (before ++ (line_without_trace_label line ++ 10 ∷ [])) bytes line after whole cut kept refl was more)
    (lasts (without_trace_labels (after ++ more)))

-- memory ran out before it was read
pub feeding_memory_fault : (gone : ℕ) (front : List Event) (begun : Option Trace) (line : List ℕ) → IsTraceBegun gone front begun
    → HasNoSeparator 10 line
    → IsTraceFaultLasting (trace_begun_text front begun ++ (line ++ 10 ∷ [])) (trace_begun_line_number gone begun) NoMemory
feeding_memory_fault gone front None line h clean = trace_walk_first_fault NoMemory line clean tt
feeding_memory_fault gone front (Some t) line h clean =
    trace_walk_fault_behind NoMemory (trace_sizes_of t.sizes) gone front t.events.items line h clean tt

-- the number and the fault of a line of which a growth was refused
pub feeding_refused_label : (gone : ℕ) (front : List Event) (begun : Option Trace) (line : List ℕ) (e : ℕ × TraceFault)
    → IsTraceBegun gone front begun → HasNoSeparator 10 line → e.0 ≡ trace_begun_line_number gone begun → e.1 ≡ NoMemory
    → IsTraceFaultLasting (trace_begun_text front begun ++ (line ++ 10 ∷ [])) e.0 e.1
feeding_refused_label gone front begun line e h clean number fault =
    let text = trace_begun_text front begun ++ (line ++ 10 ∷ []) in
    subst (λ (n : ℕ). IsTraceFaultLasting text n e.1) (sym number)
    (subst (λ (f : TraceFault). IsTraceFaultLasting text (trace_begun_line_number gone begun) f) (sym fault)
    (feeding_memory_fault gone front begun line h clean))

-- the same of the same text
pub feeding_fault_same : (e : ℕ × TraceFault) (x y : List ℕ) → x ≡ y → IsTraceFault x e.0 e.1 → IsTraceFault y e.0 e.1
feeding_fault_same e x y same h = subst (λ (t : List ℕ). IsTraceFault t e.0 e.1) same h

-- ---- a piece

-- the line that it ends, and what stands behind
pub feeding_piece_bytes : (kept end behind piece more : List ℕ) → IsLineReadOff piece end behind
    → ((kept ++ end) ++ 10 ∷ []) ++ (behind ++ more) ≡ kept ++ (piece ++ more)
feeding_piece_bytes kept end behind piece more cut =
    append_assoc (kept ++ end) (10 ∷ []) (behind ++ more) ∙ append_assoc kept end (10 ∷ (behind ++ more))
    ∙ ap (λ (x : List ℕ). kept ++ x)
    (sym (append_assoc end (10 ∷ behind) more) ∙ ap (λ (x : List ℕ). x ++ more) (sym cut.bytes_are))

-- the line was read: what is read with what comes next
pub feeding_line_read : (change : List ℕ → List ℕ) (old now left kept end behind piece : List ℕ) → left ≡ [] → IsLineReadOff piece end behind
    → ((more : List ℕ) → now ++ trace_label_by_lines change (left ++ more) ≡ old ++ trace_label_by_lines change (((kept ++ end) ++ 10 ∷ []) ++ more))
    → (more : List ℕ) → now ++ trace_label_by_lines change (behind ++ more) ≡ old ++ trace_label_by_lines change (kept ++ (piece ++ more))
feeding_line_read change old now left kept end behind piece none cut was more =
    ap (λ (x : List ℕ). now ++ trace_label_by_lines change (x ++ (behind ++ more))) (sym none) ∙ was (behind ++ more)
    ∙ ap (λ (x : List ℕ). old ++ trace_label_by_lines change x) (feeding_piece_bytes kept end behind piece more cut)

-- ---- what was read of all bytes

-- what was read so far, as readers have it
abbrev pub feeding_fed_text : ℕ → Bool → Option Trace → List ℕ → List ℕ → ℕ → FedText
feeding_fed_text gone headed begun labels unfinished passed = record {
  gone = gone;
  headed = headed;
  sizes = trace_begun_sizes begun;
  events = trace_begun_events begun;
  labels = labels;
  unfinished = unfinished;
  passed = passed;
}

pub feeding_further : (x y : FedText) (bytes piece : List ℕ) (front : List Event) (told : List ℕ)
    → (IsTraceSoFar x.sizes x.gone front x.events → IsTraceSoFar y.sizes y.gone front y.events)
    → (IsTraceSoFar x.sizes x.gone front x.events → (more : List ℕ) → fed_text_with front y more ≡ fed_text_with front x (piece ++ more))
    → ((more : List ℕ) → fed_text_labels_with [] y more ≡ fed_text_labels_with [] x (piece ++ more))
    → (AreTraceLabelsLeft x.headed x.gone (trace_line_count x.sizes x.events) told x.labels
    → AreTraceLabelsLeft y.headed y.gone (trace_line_count y.sizes y.events) told y.labels)
    → ArePassedOver x.passed (x.unfinished ++ piece) y.passed y.unfinished
    → IsFedTextOf bytes front told x → IsFedTextOf (bytes ++ piece) front told y
feeding_further x y bytes piece front told trace text labels lines over h = record {
  text = λ more. text h.trace more ∙ h.text (piece ++ more) ∙ ap without_trace_labels (sym (append_assoc bytes piece more));
  labels = λ more.
      ap (λ (t : List ℕ). told ++ t) (labels more) ∙ h.labels (piece ++ more)
      ∙ ap trace_labels_of (sym (append_assoc bytes piece more));
  trace = trace h.trace;
  lines = lines h.lines;
  passed = passed_over_further 0 x.passed y.passed bytes x.unfinished piece y.unfinished h.passed over;
}

-- a line was refused
pub feeding_line_refused : (gone : ℕ) (headed : Bool) (begun now : Option Trace) (labels unfinished : List ℕ) (passed : ℕ) (bytes piece : List ℕ)
    (front : List Event) (told : List ℕ) (y : FedText) → y.sizes ≡ trace_begun_sizes now → y.events ≡ trace_begun_events now
    → IsFedTextOf bytes front told (feeding_fed_text gone headed begun labels unfinished passed)
    → IsLineRefused gone begun now (unfinished ++ piece) passed y.passed → IsFedLineRefused (bytes ++ piece) front y
feeding_line_refused gone headed begun now labels unfinished passed bytes piece front told y sizes events h refused = record {
  left = refused.left;
  line = refused.line;
  text = λ more.
      rw (sizes, events) (refused.text front h.trace more
      ∙ ap (λ (x : List ℕ). trace_begun_text front begun ++ without_trace_labels x) (append_assoc unfinished piece more) ∙ h.text (piece ++ more)
      ∙ ap without_trace_labels (sym (append_assoc bytes piece more)));
  over = passed_over_further 0 passed y.passed bytes unfinished piece refused.left h.passed refused.over;
}

pub feeding_fault_further : (x : FedText) (bytes piece : List ℕ) (front : List Event) (told : List ℕ) (n : ℕ) (f : TraceFault)
    → (IsTraceSoFar x.sizes x.gone front x.events → (more : List ℕ) → IsTraceFault (fed_text_with front x (piece ++ more)) n f)
    → IsFedTextOf bytes front told x → FedTextFaultStays (bytes ++ piece) n f
feeding_fault_further x bytes piece front told n f fault h more =
    subst (λ (t : List ℕ). IsTraceFault t n f)
    (h.text (piece ++ more) ∙ ap without_trace_labels (sym (append_assoc bytes piece more))) (fault h.trace more)

-- what was read, whether or not a line was refused
pub feeding_read_further : (x y : FedText) (bytes piece : List ℕ) (front : List Event) (told : List ℕ)
    → (IsTraceSoFar x.sizes x.gone front x.events → IsTraceSoFar y.sizes y.gone front y.events)
    → (IsTraceSoFar x.sizes x.gone front x.events → (more : List ℕ)
    → (rest : List ℕ) × (fed_text_with front x (piece ++ more) ≡ trace_text_so_far y.sizes (front ++ y.events) ++ rest))
    → IsFedTextOf bytes front told x → HasReadFedText (bytes ++ piece) front y
feeding_read_further x y bytes piece front told trace text h = record {
  trace = trace h.trace;
  text = λ more.
      let begins = text h.trace more in (
        begins.0,
        ap without_trace_labels (append_assoc bytes piece more) ∙ sym (h.text (piece ++ more)) ∙ begins.1,
      );
}

-- no trace begins so
pub feeding_fault_never_begins : (bytes : List ℕ) (n : ℕ) (f : TraceFault) → f ≢ NoMemory → FedTextFaultStays bytes n f → ¬ FedTextBeginsTrace bytes
feeding_fault_never_begins bytes n f ne stays b = trace_walk_fault_only f (without_trace_labels (bytes ++ b.3)) n (stays b.3) ne b.0 b.1 b.2 (sym b.4)

-- after the last piece
pub feeding_text_whole : (lines rest bytes : List ℕ) → HasNoSeparator 10 rest → lines ++ without_trace_labels (rest ++ []) ≡ without_trace_labels (bytes ++ [])
    → lines ++ line_without_trace_label rest ≡ without_trace_labels bytes
feeding_text_whole lines rest bytes clean h =
    ap (λ (t : List ℕ). lines ++ t) (sym (labelling_lines_last line_without_trace_label rest clean) ∙ ap without_trace_labels (sym (append-nil rest)))
    ∙ h ∙ ap without_trace_labels (append-nil bytes)

-- after the last piece, of a text that may end in the midst of a line
pub feeding_unfinished : (s : Sizes) (es : List Event) (unfinished bytes : List ℕ) → HasNoSeparator 10 unfinished
    → trace_text s es ++ without_trace_labels (unfinished ++ []) ≡ without_trace_labels (bytes ++ []) → IsUnfinishedTrace bytes s es
feeding_unfinished s es unfinished bytes clean text = (
  line_without_trace_label unfinished,
  labelling_dropped_clean unfinished clean,
  sym (feeding_text_whole (trace_text s es) unfinished bytes clean text),
)

pub feeding_labels_whole : (labels rest bytes : List ℕ) → rest ≡ [] → labels ++ trace_labels_of (rest ++ []) ≡ trace_labels_of (bytes ++ [])
    → labels ≡ trace_labels_of bytes
feeding_labels_whole labels rest bytes none h =
    sym (append-nil labels) ∙ ap (λ (t : List ℕ). labels ++ trace_labels_of (t ++ [])) (sym none) ∙ h
    ∙ ap trace_labels_of (append-nil bytes)

-- the line behind those that were read
pub feeding_line_number : (gone : ℕ) (headed : Bool) (begun : Option Trace) (labels unfinished : List ℕ) → IsTraceLeft gone begun
    → trace_begun_line_number gone begun ≡ fed_text_line_number (feeding_fed_text gone headed begun labels unfinished 0)
feeding_line_number gone headed None labels unfinished left = omega (arith, left)
feeding_line_number gone headed (Some t) labels unfinished left = omega arith

pub feeding_whole : (gone : ℕ) (headed : Bool) (begun : Option Trace) (labels unfinished : List ℕ) (passed : ℕ) (bytes : List ℕ) (front : List Event) (told : List ℕ)
    → begun ≢ None → unfinished ≡ [] → IsFedTextOf bytes front told (feeding_fed_text gone headed begun labels unfinished passed)
    → IsFedTextWhole bytes front told (feeding_fed_text gone headed begun labels unfinished passed)
feeding_whole gone headed None labels unfinished passed bytes front told some none h = absurd (some refl)
feeding_whole gone headed (Some t) labels unfinished passed bytes front told some none h =
    let s = trace_sizes_of t.sizes in
    let es = front ++ t.events.items in
    let all : without_trace_labels bytes ≡ trace_text s es =
    sym (ap without_trace_labels (append-nil bytes)) ∙ sym (h.text [])
    ∙ ap (λ (x : List ℕ). trace_text s es ++ without_trace_labels (x ++ [])) none ∙ append-nil (trace_text s es) in
    record {
      sizes = t.sizes;
      known = refl;
      trace = h.trace.1;
      text = all;
      again = text_parts_of_no_other_trace s es (without_trace_labels bytes) h.trace.1 all;
      labels = feeding_labels_whole (told ++ labels) unfinished bytes none
          (append_assoc told labels (trace_labels_of (unfinished ++ [])) ∙ h.labels []);
    }

-- ---- what was read was let go of

feeding_let_go_trace : (begun : Option Trace) (gone : ℕ) (front : List Event) → IsTraceBegun gone front begun
    → IsTraceSoFar (trace_begun_sizes begun) (gone + length (trace_begun_events begun)) (front ++ trace_begun_events begun) []
feeding_let_go_trace None gone front h =
    (omega (arith, h.0, length-append front []), append-nil (front ++ []) ∙ h.1)
feeding_let_go_trace (Some t) gone front h = (
  omega (arith, h.0, length-append front t.events.items),
  subst (IsLawfulTrace (trace_sizes_of t.sizes)) (sym (append-nil (front ++ t.events.items))) h.1,
)

feeding_let_go_lines : (begun : Option Trace) (headed : Bool) (gone : ℕ) (told labels : List ℕ) → IsTraceLeft gone begun
    → AreTraceLabelsLeft headed gone (trace_begun_line_count begun) told labels
    → AreTraceLabelsLeft (headed && is_none begun) (gone + length (trace_begun_events begun)) (trace_line_count (trace_begun_sizes begun) [])
    (told ++ labels) []
feeding_let_go_lines None true gone told labels none h =
    let same : gone + 0 ≡ gone = omega arith in rw same (label_lines_unread true gone told labels none h)
feeding_let_go_lines None false gone told labels none h =
    let same : gone + 0 ≡ gone = omega arith in rw same (label_lines_unread false gone told labels none h)
feeding_let_go_lines (Some t) true gone told labels left h = label_lines_let_go true gone (length t.events.items) told labels h
feeding_let_go_lines (Some t) false gone told labels left h = label_lines_let_go false gone (length t.events.items) told labels h

pub feeding_let_go : (gone : ℕ) (headed : Bool) (begun : Option Trace) (labels unfinished : List ℕ) (passed : ℕ) (bytes : List ℕ) (front : List Event) (told : List ℕ)
    (y : FedText) → IsTraceLeft gone begun → y.gone ≡ gone + length (trace_begun_events begun) → y.headed ≡ headed && is_none begun
    → y.sizes ≡ trace_begun_sizes begun → y.events ≡ [] → y.labels ≡ [] → y.unfinished ≡ unfinished → y.passed ≡ passed
    → IsFedTextOf bytes front told (feeding_fed_text gone headed begun labels unfinished passed)
    → IsFedTextOf bytes (front ++ trace_begun_events begun) (told ++ labels) y
feeding_let_go gone headed begun labels unfinished passed bytes front told y left count head sizes events none rest over h = record {
  text = λ more. rw (sizes, events, rest, append-nil (front ++ trace_begun_events begun)) (h.text more);
  labels = λ more. rw (none, rest) (append_assoc told labels (trace_labels_of (unfinished ++ more)) ∙ h.labels more);
  trace = rw (sizes, count, events) (feeding_let_go_trace begun gone front h.trace);
  lines = rw (head, sizes, count, events, none) (feeding_let_go_lines begun headed gone told labels left h.lines);
  passed = rw (over, rest) h.passed;
}

pub feeding_read_let_go : (gone : ℕ) (headed : Bool) (begun : Option Trace) (labels unfinished : List ℕ) (passed : ℕ) (bytes : List ℕ) (front : List Event) (y : FedText)
    → y.gone ≡ gone + length (trace_begun_events begun) → y.sizes ≡ trace_begun_sizes begun → y.events ≡ []
    → HasReadFedText bytes front (feeding_fed_text gone headed begun labels unfinished passed)
    → HasReadFedText bytes (front ++ trace_begun_events begun) y
feeding_read_let_go gone headed begun labels unfinished passed bytes front y count sizes events h = record {
  trace = rw (sizes, count, events) (feeding_let_go_trace begun gone front h.trace);
  text = λ more. rw (sizes, events, append-nil (front ++ trace_begun_events begun)) (h.text more);
}

-- ---- the label of an event that is left
