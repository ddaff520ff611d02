-- A journal of which something was cut off is refused at its second line, as that.
use Rattle.std.proofs.Common.{◌≡◌, ◌≢◌, ℕ, ◌+◌, ◌^◌, ◌<◌, List, [], ◌∷◌, ◌++◌, length, refl, sym, ap, subst, ◌∙◌, append_assoc, arith, inl, inr}
use Rattle.std.specs.Prelude.{codes}
use Rattle.std.specs.Fmt.{decimal}
use Rattle.std.proofs.lemmas.List.{append_cancel_right}
use Rattle.journal.specs.declared.event.Event.{Event}
use Rattle.journal.specs.Sizes.{Sizes}
use Rattle.lrc_script.specs.LineReading.{parts_of_read_line}
use Rattle.lrc_script.proofs.Reading.KeywordLines.{keyword_line_decimal_has_no}
use Rattle.lrc_script.proofs.Reading.Separators.{HasNoSeparator, HasNoSeparator-append, separator_behind_first_word, separator_absent_one_word}
use Rattle.lrc_report.specs.ReportText.{report_cut_text, report_events_text, report_left_text}
use Rattle.lrc_check.specs.declared.traces.fault.TraceFault.{TraceFault}
use Rattle.lrc_check.specs.declared.traces.fault.TraceFault.TheVariants.{Truncated, Cut, BadLine, BadNumber, NoMemory}
use Rattle.lrc_check.specs.Traces.Sizes.{AreTraceSizes}
use Rattle.lrc_check.specs.Traces.TraceText.{trace_text_first_line, trace_text}
use Rattle.lrc_check.specs.Traces.TraceLines.{IsTraceLineOfCut}
use Rattle.lrc_check.specs.Traces.TraceFaults.{TraceFaultSaysOfHead, IsFaultyTraceLine, IsTraceFault, IsTraceFaultBehind, IsTraceFaultInHead, TraceFaultSaysOfLine}
use Rattle.lrc_check.specs.Traces.Laws.{CutRefusedLaw}
use Rattle.lrc_check.proofs.traces.CutLines.{cut_line_bytes, cut_line_parts}
use Rattle.lrc_check.proofs.traces.EventWords.{event_words_bytes, event_words_are_line, event_words_plain_word}
use Rattle.lrc_check.proofs.traces.TraceWalk.{trace_walk_start}
use Rattle.lrc_check.proofs.traces.Shapes.{no_shape_by_first_word}
use Rattle.lrc_check.proofs.traces.TextParts.{text_parts_of_events, text_parts_head, text_parts_head_clean, text_parts_some, text_parts_and_more}

-- such a line, without its line feed
abbrev pub cut_refused_line : ℕ → List ℕ
cut_refused_line n = codes "cut " ++ decimal n

cut_refused_line_clean : (n : ℕ) → n < 2 ^ 32 → HasNoSeparator 10 (cut_refused_line n)
cut_refused_line_clean n small =
    HasNoSeparator-append 10 (codes "cut") (32 ∷ decimal n) (event_words_plain_word (codes "cut") refl).1
    (λ e. absurd (omega (arith, e)), keyword_line_decimal_has_no 10 n (omega arith) small)

cut_refused_line_is_cut : (n : ℕ) → 0 < n → n < 2 ^ 32 → IsTraceLineOfCut (cut_refused_line n)
cut_refused_line_is_cut n some small = (n, some, small, sym (cut_line_bytes n some))

-- the first lines of what is left of a journal
cut_refused_left_parts : (s : Sizes) (n : ℕ) (es : List Event) → AreTraceSizes s → 0 < n → n < 2 ^ 32
    → parts_of_read_line 10 (trace_text_first_line s ++ (report_cut_text n ++ report_events_text n es))
    ≡ text_parts_head s ∷ cut_refused_line n ∷ parts_of_read_line 10 (report_events_text n es)
cut_refused_left_parts s n es h some small =
    let rest = report_events_text n es in
    let left : report_cut_text n ++ rest ≡ cut_refused_line n ++ 10 ∷ rest =
    ap (λ (x : List ℕ). x ++ rest) (cut_line_bytes n some) ∙ append_assoc (cut_refused_line n) (10 ∷ []) rest in
    ap (parts_of_read_line 10) (append_assoc (text_parts_head s) (10 ∷ []) (report_cut_text n ++ rest))
    ∙ separator_behind_first_word 10 (text_parts_head s) (report_cut_text n ++ rest) (text_parts_head_clean s h)
    ∙ ap (λ (x : List (List ℕ)). text_parts_head s ∷ x)
    (ap (parts_of_read_line 10) left ∙ separator_behind_first_word 10 (cut_refused_line n) rest (cut_refused_line_clean n small))

-- lists that begin differently
cut_refused_begins_alike : (a b : ℕ) (xs ys : List ℕ) → (a ∷ xs) ≡ (b ∷ ys) → a ≡ b
cut_refused_begins_alike a b xs ys e = cc

cut_refused_line_no_event : (n place : ℕ) (e : Event) → cut_refused_line n ≡ event_words_bytes place e → ⊥
cut_refused_line_no_event n place e same =
    omega (arith, cut_refused_begins_alike 99 101 _ _ same)

-- what a fault says of that line
cut_refused_said : (f : TraceFault) (t : Sizes) (n : ℕ) → 0 < n → n < 2 ^ 32 → TraceFaultSaysOfLine f t 0 (cut_refused_line n) → f ≡ Cut
cut_refused_said Cut t n some small says = refl
cut_refused_said BadLine t n some small says = absurd (says.1 refl (cut_refused_line_is_cut n some small))
cut_refused_said BadNumber t n some small says =
    absurd
    (no_shape_by_first_word (cut_refused_line n) (codes "cut") (decimal n ∷ [])
    (cut_line_parts (cut_refused_line n) n some small (sym (cut_line_bytes n some)))
    (λ e. omega (arith, ap (λ (x : List ℕ). length x) e)) _ _ _ _ says.shape)
cut_refused_said f t n some small says =
    absurd (cut_refused_line_no_event n says.0 says.1 (append_cancel_right (cut_refused_line n) (event_words_bytes says.0 says.1) (10 ∷ [])
    (says.2.line_is ∙ event_words_are_line says.0 says.1)))

cut_refused_bad_line_behind : (f : TraceFault) (t : Sizes) (n : ℕ) (rest : List ℕ) (more : List (List ℕ)) → 0 < n → n < 2 ^ 32
    → parts_of_read_line 10 rest ≡ cut_refused_line n ∷ more → IsFaultyTraceLine (trace_text t []) rest (TraceFaultSaysOfLine f t 0) → f ≡ Cut
cut_refused_bad_line_behind f t n rest more some small parts bad =
    let lines : (bad.line ∷ parts_of_read_line 10 bad.more) ≡ (cut_refused_line n ∷ more) =
    sym (separator_behind_first_word 10 bad.line bad.more bad.cut.one_line) ∙ ap (parts_of_read_line 10) (sym bad.cut.bytes_are) ∙ parts in
    let same : bad.line ≡ cut_refused_line n = cc in
    cut_refused_said f t n some small (subst (TraceFaultSaysOfLine f t 0) same bad.holds)

cut_refused_said_behind : (f : TraceFault) (t : Sizes) (n : ℕ) (rest : List ℕ) (more : List (List ℕ)) → 0 < n → n < 2 ^ 32
    → 0 < length more → f ≢ NoMemory → parts_of_read_line 10 rest ≡ cut_refused_line n ∷ more → IsTraceFaultBehind f t [] rest → f ≡ Cut
cut_refused_said_behind NoMemory t n rest more some small few ne parts h = absurd (ne refl)
cut_refused_said_behind Truncated t n rest more some small few ne parts h =
    let lines : (rest ∷ []) ≡ (cut_refused_line n ∷ more) = sym (separator_absent_one_word 10 rest h.0) ∙ parts in
    absurd (omega (arith, few, ap (λ (x : List (List ℕ)). length x) lines))
cut_refused_said_behind f t n rest more some small few ne parts h = cut_refused_bad_line_behind f t n rest more some small parts h

-- the events before it are none
cut_refused_among_lines : (f : TraceFault) (s t : Sizes) (es : List Event) (bytes rest : List ℕ) (n i : ℕ) (more : List (List ℕ))
    → 0 < n → n < 2 ^ 32 → 0 < length more → f ≢ NoMemory → parts_of_read_line 10 bytes ≡ text_parts_head s ∷ cut_refused_line n ∷ more
    → (text_parts_head t ∷ (text_parts_of_events 0 es ++ parts_of_read_line 10 rest)) ≡ parts_of_read_line 10 bytes → i ≡ length es + 2
    → IsTraceFaultBehind f t es rest → (i ≡ 2) × (f ≡ Cut)
cut_refused_among_lines f s t [] bytes rest n i more some small few ne parts lines number behind =
    let both : (text_parts_head t ∷ parts_of_read_line 10 rest) ≡ (text_parts_head s ∷ cut_refused_line n ∷ more) = lines ∙ parts in
    let others : parts_of_read_line 10 rest ≡ cut_refused_line n ∷ more = cc in
    (omega (arith, number), cut_refused_said_behind f t n rest more some small few ne others behind)
cut_refused_among_lines f s t (e ∷ es) bytes rest n i more some small few ne parts lines number behind =
    let both : (text_parts_head t ∷ event_words_bytes 0 e ∷ (text_parts_of_events 1 es ++ parts_of_read_line 10 rest))
    ≡ (text_parts_head s ∷ cut_refused_line n ∷ more) = lines ∙ parts in
    absurd (cut_refused_line_no_event n 0 e (let first : cut_refused_line n ≡ event_words_bytes 0 e = cc in first))

-- ---- the first line has no fault

cut_refused_no_bad_first_line : (f : TraceFault) (s : Sizes) (bytes : List ℕ) (more : List (List ℕ)) → AreTraceSizes s
    → parts_of_read_line 10 bytes ≡ text_parts_head s ∷ more → IsFaultyTraceLine [] bytes (TraceFaultSaysOfHead f) → ⊥
cut_refused_no_bad_first_line f s bytes more h parts bad =
    let lines : (bad.line ∷ parts_of_read_line 10 bad.more) ≡ (text_parts_head s ∷ more) =
    sym (separator_behind_first_word 10 bad.line bad.more bad.cut.one_line) ∙ ap (parts_of_read_line 10) (sym bad.cut.bytes_are) ∙ parts in
    let same : text_parts_head s ≡ bad.line = cc in
    bad.never (s, [], trace_walk_start s h, [], ap (λ (x : List ℕ). (x ++ 10 ∷ []) ++ []) same)

cut_refused_not_in_first_line : (f : TraceFault) (s : Sizes) (bytes line : List ℕ) (more : List (List ℕ)) → AreTraceSizes s
    → f ≢ NoMemory → parts_of_read_line 10 bytes ≡ text_parts_head s ∷ line ∷ more → IsTraceFaultInHead f bytes → ⊥
cut_refused_not_in_first_line NoMemory s bytes line more h ne parts said = ne refl
cut_refused_not_in_first_line Truncated s bytes line more h ne parts said =
    let lines : (bytes ∷ []) ≡ (text_parts_head s ∷ line ∷ more) = sym (separator_absent_one_word 10 bytes said) ∙ parts in
    omega (arith, ap (λ (x : List (List ℕ)). length x) lines)
cut_refused_not_in_first_line f s bytes line more h ne parts said = cut_refused_no_bad_first_line f s bytes (line ∷ more) h parts said

cut_refused_is_told : (f : TraceFault) (s : Sizes) (n i : ℕ) (es : List Event) (bytes : List ℕ) → AreTraceSizes s → 0 < n
    → n < 2 ^ 32 → f ≢ NoMemory → bytes ≡ trace_text_first_line s ++ (report_cut_text n ++ report_events_text n es) → IsTraceFault bytes i f
    → (i ≡ 2) × (f ≡ Cut)
cut_refused_is_told f s n i es bytes h some small ne whole (inl said) =
    absurd
    (cut_refused_not_in_first_line f s bytes (cut_refused_line n) _ h ne (ap (parts_of_read_line 10) whole ∙ cut_refused_left_parts s n es h some small) said.1)
cut_refused_is_told f s n i es bytes h some small ne whole (inr (t, at)) =
    cut_refused_among_lines f s t at.events bytes at.rest n i (parts_of_read_line 10 (report_events_text n es)) some small
    (text_parts_some (report_events_text n es)) ne (ap (parts_of_read_line 10) whole ∙ cut_refused_left_parts s n es h some small)
    (sym (text_parts_and_more t at.events at.rest at.begun) ∙ ap (parts_of_read_line 10) (sym at.whole)) at.number at.behind

pub cut_refused_as_law : CutRefusedLaw
cut_refused_as_law s j i f h some few ne at =
    cut_refused_is_told f s j.base.cut i j.events (trace_text_first_line s ++ report_left_text j) h some (omega (arith, few)) ne refl at
