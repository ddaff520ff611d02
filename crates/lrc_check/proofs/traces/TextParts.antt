-- The lines of a trace's text are cut apart in one way: so the text has one trace, and each of its lines is due.
use Rattle.std.proofs.Common.{◌≡◌, ℕ, suc, ◌+◌, ◌<◌, ◌≤◌, Bool, true, false, cond, eqb, List, [], ◌∷◌, ◌++◌, length, map, refl, sym, ap, subst, ◌∙◌, append_assoc, append-nil, arith}
use Rattle.std.specs.Prelude.{codes}
use Rattle.std.specs.List.{AllByRecursion, flat_map}
use Rattle.std.specs.Fmt.{decimal}
use Rattle.std.proofs.lemmas.Bool.{eqb-true}
use Rattle.std.proofs.lemmas.List.{append_cancel_right, length-append}
use Rattle.std.proofs.lemmas.List.Elements.{recursion_from_All}
use Rattle.std.proofs.lemmas.List.Splits.{length-slice_split}
use Rattle.journal.specs.declared.event.Event.{Event}
use Rattle.journal.specs.declared.event.Kind.{Kind}
use Rattle.journal.specs.declared.event.Kind.TheVariants as kind
use Rattle.journal.specs.Sizes.{Sizes}
use Rattle.journal.specs.WellFormed.{WellFormedKindInRange}
use Rattle.lrc_script.specs.ScriptLines.{script_cluster_line, script_line_bytes, script_line_spaced}
use Rattle.lrc_script.specs.ScriptFaults.{IsLineSplit}
use Rattle.lrc_script.specs.LineReading.{parts_of_read_line}
use Rattle.lrc_script.proofs.Reading.KeywordLines.{keyword_line_numbers_flat, keyword_line_split}
use Rattle.lrc_script.proofs.Reading.DecimalNumbers.{AreDecimalNumbers}
use Rattle.lrc_script.proofs.Reading.Separators.{HasNoSeparator, HasNoSeparator-append, separator_behind_first_word, separator_absent_one_word}
use Rattle.lrc_report.specs.ReportText.{report_event_text, report_events_text}
use Rattle.lrc_check.specs.Traces.Sizes.{AreTraceSizes, trace_sizes_as_script}
use Rattle.lrc_check.specs.Traces.Heads.{trace_head_numbers_of}
use Rattle.lrc_check.specs.Traces.TraceText.{trace_text_first_line, trace_text}
use Rattle.lrc_check.specs.Traces.LawfulTraces.{HasLawfulTraceWords, IsNoOtherLawfulTrace, IsLawfulTrace, IsWithinLawfulTrace, most_traced_events}
use Rattle.lrc_check.specs.Traces.Names.{trace_name_numbers}
use Rattle.lrc_check.specs.Traces.TraceFaults.{BeginsTraceText}
use Rattle.lrc_check.proofs.traces.EventWords.{AreEventWordsNumbers, event_words_clean_line, event_words_bytes, event_words_clean_bytes, event_words_clean_decimals, event_words_decimals_same, event_words_differ, event_words_plain_word, event_words_splits_agree, event_words_are_line}

-- ---- the line of the sizes

-- the line without its line feed
abbrev pub text_parts_head : Sizes → List ℕ
text_parts_head s = script_line_bytes (script_cluster_line (trace_sizes_as_script s))

text_parts_head_numbers_few : (p n w l g : ℕ) (none : Bool) → AreDecimalNumbers (p ∷ n ∷ w ∷ l ∷ g ∷ [])
    → AreDecimalNumbers (p ∷ n ∷ w ∷ l ∷ cond none [] (g ∷ []))
text_parts_head_numbers_few p n w l g true h = (h.0, (h.1.0, (h.1.1.0, (h.1.1.1.0, tt))))
text_parts_head_numbers_few p n w l g false h = h

pub text_parts_head_small : (s : Sizes) → AreTraceSizes s → AreDecimalNumbers (trace_head_numbers_of s)
text_parts_head_small s h =
    let streamed = h.streamed in
    text_parts_head_numbers_few s.processors s.pages s.words s.locks s.flags (eqb s.flags 0) (
      omega (arith, streamed.processors),
      (
        omega (arith, streamed.pages),
        (omega (arith, streamed.words), (omega (arith, streamed.locks), (omega (arith, streamed.flags), tt))),
      ),
    )

-- it is split into the word and the numbers
pub text_parts_head_split : (s : Sizes) → AreTraceSizes s → IsLineSplit (text_parts_head s) (codes "cluster") (map decimal (trace_head_numbers_of s))
text_parts_head_split s h = keyword_line_split (codes "cluster") (trace_head_numbers_of s) refl (text_parts_head_small s h)

-- it is one line
pub text_parts_head_clean : (s : Sizes) → AreTraceSizes s → HasNoSeparator 10 (text_parts_head s)
text_parts_head_clean s h =
    let ns = trace_head_numbers_of s in
    HasNoSeparator-append 10 (codes "cluster") (flat_map script_line_spaced ns) (event_words_plain_word (codes "cluster") refl).1
    (subst (HasNoSeparator 10) (sym (keyword_line_numbers_flat ns)) (event_words_clean_line (map decimal ns) (event_words_clean_decimals ns (text_parts_head_small s h))))

text_parts_head_flags_same : (f g : ℕ) (b c : Bool) → eqb f 0 ≡ b → eqb g 0 ≡ c → cond b [] (f ∷ []) ≡ cond c [] (g ∷ []) → f ≡ g
text_parts_head_flags_same f g true true p q e = eqb-true f 0 p ∙ sym (eqb-true g 0 q)
text_parts_head_flags_same f g true false p q e = absurd cc
text_parts_head_flags_same f g false true p q e = absurd cc
text_parts_head_flags_same f g false false p q e = cc

abbrev text_parts_head_sizes : (processors pages words locks flags : ℕ) → Sizes
text_parts_head_sizes processors pages words locks flags = record {
  processors = processors;
  pages = pages;
  words = words;
  locks = locks;
  flags = flags;
}

-- no two sizes have the same numbers
pub text_parts_head_numbers_same : (s t : Sizes) → trace_head_numbers_of s ≡ trace_head_numbers_of t → s ≡ t
text_parts_head_numbers_same s t e =
    let processors : s.processors ≡ t.processors = cc in
    let pages : s.pages ≡ t.pages = cc in
    let words : s.words ≡ t.words = cc in
    let locks : s.locks ≡ t.locks = cc in
    let rest : cond (eqb s.flags 0) [] (s.flags ∷ []) ≡ cond (eqb t.flags 0) [] (t.flags ∷ []) = cc in
    let flags = text_parts_head_flags_same s.flags t.flags (eqb s.flags 0) (eqb t.flags 0) refl refl rest in
    ap (λ x. text_parts_head_sizes x s.pages s.words s.locks s.flags) processors
    ∙ ap (λ x. text_parts_head_sizes t.processors x s.words s.locks s.flags) pages
    ∙ ap (λ x. text_parts_head_sizes t.processors t.pages x s.locks s.flags) words
    ∙ ap (λ x. text_parts_head_sizes t.processors t.pages t.words x s.flags) locks
    ∙ ap (λ x. text_parts_head_sizes t.processors t.pages t.words t.locks x) flags

text_parts_heads_differ : (s t : Sizes) → AreTraceSizes s → AreTraceSizes t → text_parts_head s ≡ text_parts_head t → s ≡ t
text_parts_heads_differ s t h k e =
    let words = event_words_splits_agree (text_parts_head s) _ _ _ _ (text_parts_head_split s h)
    (subst (λ (x : List ℕ). IsLineSplit x (codes "cluster") (map decimal (trace_head_numbers_of t))) (sym e) (text_parts_head_split t k)) in
    text_parts_head_numbers_same s t
    (event_words_decimals_same (trace_head_numbers_of s) (trace_head_numbers_of t) (text_parts_head_small s h) (text_parts_head_small t k) words.1)

-- ---- the numbers of events within the sizes

text_parts_kind_small : (s : Sizes) (k : Kind) → AreTraceSizes s → WellFormedKindInRange s k → HasLawfulTraceWords k → AreDecimalNumbers (trace_name_numbers k)
text_parts_kind_small s (kind.Load a v) h range words =
    (omega (arith, h.streamed.addresses, range), (words, tt))
text_parts_kind_small s (kind.Store a v) h range words =
    (omega (arith, h.streamed.addresses, range), (words, tt))
text_parts_kind_small s (kind.Fetch w n r d) h range words =
    (omega (arith, h.streamed.pages, range), (words.0, (words.1, (words.2, tt))))
text_parts_kind_small s (kind.Ask l) h range words = (omega (arith, h.streamed.locks, range), tt)
text_parts_kind_small s (kind.Acquire l) h range words = (omega (arith, h.streamed.locks, range), tt)
text_parts_kind_small s (kind.Release l) h range words = (omega (arith, h.streamed.locks, range), tt)
text_parts_kind_small s kind.Arrive h range words = tt
text_parts_kind_small s kind.Depart h range words = tt
text_parts_kind_small s (kind.Set f) h range words = (omega (arith, h.streamed.flags, range), tt)
text_parts_kind_small s (kind.Watch f) h range words = (omega (arith, h.streamed.flags, range), tt)
text_parts_kind_small s (kind.Await f) h range words = (omega (arith, h.streamed.flags, range), tt)

pub text_parts_event_small : (s : Sizes) (i : ℕ) (e : Event) → AreTraceSizes s → i ≤ most_traced_events → IsWithinLawfulTrace s e → AreEventWordsNumbers i e
text_parts_event_small s i e h le within = (
  omega (arith, le),
  (omega (arith, within.processor, h.streamed.processors), text_parts_kind_small s e.kind h within.kind within.words),
)

-- events at their places, from i on
abbrev pub AreTextPartsSmall : ℕ → List Event → Type 0
AreTextPartsSmall i [] = Unit {0}
AreTextPartsSmall i (e ∷ es) = AreEventWordsNumbers i e × AreTextPartsSmall (i + 1) es

text_parts_events_small : (s : Sizes) (i : ℕ) (es : List Event) → AreTraceSizes s → i + length es ≤ most_traced_events
    → AllByRecursion (IsWithinLawfulTrace s) es → AreTextPartsSmall i es
text_parts_events_small s i [] h le within = tt
text_parts_events_small s i (e ∷ es) h le within =
    (text_parts_event_small s i e h (omega (arith, le)) within.0, text_parts_events_small s (i + 1) es h (omega (arith, le)) within.1)

pub text_parts_small : (s : Sizes) (es : List Event) → IsLawfulTrace s es → AreTextPartsSmall 0 es
text_parts_small s es h =
    text_parts_events_small s 0 es h.sizes (omega (arith, h.few)) (recursion_from_All (IsWithinLawfulTrace s) es h.events)

-- ---- the lines

-- the lines of events, the first at place i, without their line feeds
abbrev pub text_parts_of_events : ℕ → List Event → List (List ℕ)
text_parts_of_events i [] = []
text_parts_of_events i (e ∷ es) = event_words_bytes i e ∷ text_parts_of_events (i + 1) es

text_parts_of_events_and_more : (i : ℕ) (es : List Event) (more : List ℕ) → AreTextPartsSmall i es
    → parts_of_read_line 10 (report_events_text i es ++ more) ≡ text_parts_of_events i es ++ parts_of_read_line 10 more
text_parts_of_events_and_more i [] more small = refl
text_parts_of_events_and_more i (e ∷ es) more small =
    let rest = report_events_text (i + 1) es in
    let bytes : (report_event_text i e ++ rest) ++ more ≡ event_words_bytes i e ++ 10 ∷ (rest ++ more) =
    append_assoc (report_event_text i e) rest more
    ∙ ap (λ (t : List ℕ). t ++ (rest ++ more)) (event_words_are_line i e)
    ∙ append_assoc (event_words_bytes i e) (10 ∷ []) (rest ++ more) in
    ap (parts_of_read_line 10) bytes ∙ separator_behind_first_word 10 (event_words_bytes i e) (rest ++ more) (event_words_clean_bytes i e small.0)
    ∙ ap (λ (t : List (List ℕ)). event_words_bytes i e ∷ t) (text_parts_of_events_and_more (i + 1) es more small.1)

-- all lines of a trace, and what stands behind them
pub text_parts_and_more : (s : Sizes) (es : List Event) (more : List ℕ) → IsLawfulTrace s es
    → parts_of_read_line 10 (trace_text s es ++ more) ≡ text_parts_head s ∷ (text_parts_of_events 0 es ++ parts_of_read_line 10 more)
text_parts_and_more s es more h =
    let events = report_events_text 0 es in
    let bytes : (trace_text_first_line s ++ events) ++ more ≡ text_parts_head s ++ 10 ∷ (events ++ more) =
    append_assoc (trace_text_first_line s) events more ∙ append_assoc (text_parts_head s) (10 ∷ []) (events ++ more) in
    ap (parts_of_read_line 10) bytes ∙ separator_behind_first_word 10 (text_parts_head s) (events ++ more) (text_parts_head_clean s h.sizes)
    ∙ ap (λ (t : List (List ℕ)). text_parts_head s ∷ t) (text_parts_of_events_and_more 0 es more (text_parts_small s es h))

text_parts_of_trace : (s : Sizes) (es : List Event) → IsLawfulTrace s es
    → parts_of_read_line 10 (trace_text s es) ≡ text_parts_head s ∷ (text_parts_of_events 0 es ++ [] ∷ [])
text_parts_of_trace s es h = ap (parts_of_read_line 10) (sym (append-nil (trace_text s es))) ∙ text_parts_and_more s es [] h

-- ---- one text, one trace

text_parts_of_events_differ : (i : ℕ) (es fs : List Event) → AreTextPartsSmall i es → AreTextPartsSmall i fs
    → text_parts_of_events i es ≡ text_parts_of_events i fs → es ≡ fs
text_parts_of_events_differ i [] [] small less e = refl
text_parts_of_events_differ i [] (f ∷ fs) small less e = absurd cc
text_parts_of_events_differ i (e ∷ es) [] small less same = absurd cc
text_parts_of_events_differ i (e ∷ es) (f ∷ fs) small less same =
    let first : event_words_bytes i e ≡ event_words_bytes i f = cc in
    let others : text_parts_of_events (i + 1) es ≡ text_parts_of_events (i + 1) fs = cc in
    let events = (event_words_differ i i e f small.0 less.0 first).1 in
    let rest = text_parts_of_events_differ (i + 1) es fs small.1 less.1 others in
    ap (λ (x : Event). x ∷ es) events ∙ ap (λ (xs : List Event). f ∷ xs) rest

pub text_parts_tell_trace : (s t : Sizes) (es fs : List Event) → IsLawfulTrace s es → IsLawfulTrace t fs → trace_text s es ≡ trace_text t fs
    → (s ≡ t) × (es ≡ fs)
text_parts_tell_trace s t es fs h k e =
    let lines : (text_parts_head s ∷ (text_parts_of_events 0 es ++ [] ∷ [])) ≡ (text_parts_head t ∷ (text_parts_of_events 0 fs ++ [] ∷ [])) =
    sym (text_parts_of_trace s es h) ∙ ap (parts_of_read_line 10) e ∙ text_parts_of_trace t fs k in
    let heads : text_parts_head s ≡ text_parts_head t = cc in
    let others : text_parts_of_events 0 es ++ [] ∷ [] ≡ text_parts_of_events 0 fs ++ [] ∷ [] = cc in (
      text_parts_heads_differ s t h.sizes k.sizes heads,
      text_parts_of_events_differ 0 es fs (text_parts_small s es h) (text_parts_small t fs k)
          (append_cancel_right (text_parts_of_events 0 es) (text_parts_of_events 0 fs) ([] ∷ []) others),
    )

pub text_parts_of_no_other_trace : (s : Sizes) (es : List Event) (bytes : List ℕ) → IsLawfulTrace s es → bytes ≡ trace_text s es
    → IsNoOtherLawfulTrace bytes s es
text_parts_of_no_other_trace s es bytes h e t fs k same = text_parts_tell_trace t s fs es k h (sym same ∙ e)

-- ---- the next line

-- the line is that of an event that may come next
pub record IsNextOfTextParts (s : Sizes) (es : List Event) (line : List ℕ) : Type 0 where
  pub event : Event
  pub line_is : line ≡ event_words_bytes (length es) event
  pub within : IsWithinLawfulTrace s event
  pub room : length es < most_traced_events

-- a line among those of events
record IsAmongTextParts (i : ℕ) (es fs : List Event) (line : List ℕ) : Type 0 where
  event : Event
  front : List Event
  back : List Event
  events_are : fs ≡ front ++ event ∷ back
  as_many : length front ≡ length es
  line_is : line ≡ event_words_bytes (i + length es) event

text_parts_nothing_left : (line : List ℕ) (parts : List (List ℕ)) → 0 < length parts → [] ∷ [] ≡ line ∷ parts → ⊥
text_parts_nothing_left line [] some e = omega arith
text_parts_nothing_left line (p ∷ parts) some e = absurd cc

text_parts_among_longer : (i : ℕ) (e f : Event) (es fs : List Event) (line : List ℕ) → IsAmongTextParts (i + 1) es fs line
    → IsAmongTextParts i (e ∷ es) (f ∷ fs) line
text_parts_among_longer i e f es fs line w =
    let place : (i + 1) + length es ≡ i + suc (length es) = omega arith in
    record {
      event = w.event;
      front = f ∷ w.front;
      back = w.back;
      events_are = ap (λ (xs : List Event). f ∷ xs) w.events_are;
      as_many = ap suc w.as_many;
      line_is = w.line_is ∙ ap (λ (n : ℕ). event_words_bytes n w.event) place;
    }

text_parts_walk : (i : ℕ) (es fs : List Event) (line : List ℕ) (parts : List (List ℕ)) → 0 < length parts
    → text_parts_of_events i fs ++ [] ∷ [] ≡ text_parts_of_events i es ++ line ∷ parts → IsAmongTextParts i es fs line
text_parts_walk i [] [] line parts some e = absurd (text_parts_nothing_left line parts some e)
text_parts_walk i [] (f ∷ fs) line parts some e = record {
  event = f;
  front = [];
  back = fs;
  events_are = refl;
  as_many = refl;
  line_is =
      (let first : line ≡ event_words_bytes i f = cc in
      let place : i ≡ i + 0 = omega arith in
      first ∙ ap (λ (n : ℕ). event_words_bytes n f) place);
}
text_parts_walk i (e ∷ es) [] line parts some same = absurd (let none : [] ≡ event_words_bytes i e = cc in cc)
text_parts_walk i (e ∷ es) (f ∷ fs) line parts some same =
    text_parts_among_longer i e f es fs line
    (text_parts_walk (i + 1) es fs line parts some
    (let others : text_parts_of_events (i + 1) fs ++ [] ∷ [] ≡ text_parts_of_events (i + 1) es ++ line ∷ parts = cc in others))

text_parts_holds_among : (P : Event → Type 0) (front : List Event) (e : Event) (back : List Event)
    → AllByRecursion P (front ++ e ∷ back) → P e
text_parts_holds_among P [] e back h = h.0
text_parts_holds_among P (f ∷ front) e back h = text_parts_holds_among P front e back h.1

pub text_parts_some : (bytes : List ℕ) → 0 < length (parts_of_read_line 10 bytes)
text_parts_some bytes = omega (arith, length-slice_split (λ b. eqb b 10) bytes)

text_parts_next_from : (s t : Sizes) (es fs : List Event) (line : List ℕ) → IsLawfulTrace t fs → t ≡ s → IsAmongTextParts 0 es fs line
    → IsNextOfTextParts s es line
text_parts_next_from s t es fs line k sizes w =
    let place : 0 + length es ≡ length es = omega arith in
    let all =
    subst (λ (xs : List Event). AllByRecursion (IsWithinLawfulTrace t) xs) w.events_are
    (recursion_from_All (IsWithinLawfulTrace t) fs k.events) in
    record {
      event = w.event;
      line_is = w.line_is ∙ ap (λ (n : ℕ). event_words_bytes n w.event) place;
      within = subst (λ (x : Sizes). IsWithinLawfulTrace x w.event) sizes (text_parts_holds_among (IsWithinLawfulTrace t) w.front w.event w.back all);
      room =
          omega (
            arith,
            k.few,
            ap (λ (xs : List Event). length xs) w.events_are,
            length-append w.front (w.event ∷ w.back),
            w.as_many,
          );
    }

-- where a trace's text goes on by a line, that line is due
pub text_parts_next_due : (s : Sizes) (es : List Event) (line : List ℕ) → IsLawfulTrace s es → HasNoSeparator 10 line
    → BeginsTraceText (trace_text s es ++ (line ++ 10 ∷ [])) → IsNextOfTextParts s es line
text_parts_next_due s es line h clean b =
    let t = b.0 in let fs = b.1 in let k = b.2 in let more = b.3 in
    let bytes : trace_text t fs ≡ trace_text s es ++ (line ++ 10 ∷ more) =
    b.4 ∙ append_assoc (trace_text s es) (line ++ 10 ∷ []) more
    ∙ ap (λ (x : List ℕ). trace_text s es ++ x) (append_assoc line (10 ∷ []) more) in
    let lines : (text_parts_head t ∷ (text_parts_of_events 0 fs ++ [] ∷ []))
    ≡ (text_parts_head s ∷ (text_parts_of_events 0 es ++ line ∷ parts_of_read_line 10 more)) =
    sym (text_parts_of_trace t fs k) ∙ ap (parts_of_read_line 10) bytes ∙ text_parts_and_more s es (line ++ 10 ∷ more) h
    ∙ ap (λ (x : List (List ℕ)). text_parts_head s ∷ (text_parts_of_events 0 es ++ x)) (separator_behind_first_word 10 line more clean) in
    let heads : text_parts_head t ≡ text_parts_head s = cc in
    let others : text_parts_of_events 0 fs ++ [] ∷ [] ≡ text_parts_of_events 0 es ++ line ∷ parts_of_read_line 10 more = cc in
    text_parts_next_from s t es fs line k (text_parts_heads_differ t s k.sizes h.sizes heads)
    (text_parts_walk 0 es fs line (parts_of_read_line 10 more) (text_parts_some more) others)

-- ---- the first line, and the last

-- a trace's text begins with its sizes
pub text_parts_first_due : (line : List ℕ) → HasNoSeparator 10 line → BeginsTraceText (line ++ 10 ∷ [])
    → (s : Sizes) × AreTraceSizes s × (line ≡ text_parts_head s)
text_parts_first_due line clean b =
    let t = b.0 in let fs = b.1 in let k = b.2 in let more = b.3 in
    let lines : (text_parts_head t ∷ (text_parts_of_events 0 fs ++ [] ∷ [])) ≡ (line ∷ parts_of_read_line 10 more) =
    sym (text_parts_of_trace t fs k) ∙ ap (parts_of_read_line 10) (b.4 ∙ append_assoc line (10 ∷ []) more)
    ∙ separator_behind_first_word 10 line more clean in
    (t, k.sizes, cc)

text_parts_last_same : (xs ys : List (List ℕ)) (a b : List ℕ) → xs ++ a ∷ [] ≡ ys ++ b ∷ [] → a ≡ b
text_parts_last_same [] [] a b e = cc
text_parts_last_same [] (y ∷ ys) a b e =
    absurd
    (let none : [] ≡ ys ++ b ∷ [] = cc in
    omega (arith, ap (λ (x : List (List ℕ)). length x) none, length-append ys (b ∷ [])))
text_parts_last_same (x ∷ xs) [] a b e =
    absurd
    (let none : xs ++ a ∷ [] ≡ [] = cc in
    omega (arith, ap (λ (x : List (List ℕ)). length x) none, length-append xs (a ∷ [])))
text_parts_last_same (x ∷ xs) (y ∷ ys) a b e = text_parts_last_same xs ys a b (let rest : xs ++ a ∷ [] ≡ ys ++ b ∷ [] = cc in rest)

-- it ends with a line feed
pub text_parts_end_in_line_feed : (s t : Sizes) (es fs : List Event) (rest : List ℕ) → IsLawfulTrace s es → IsLawfulTrace t fs → HasNoSeparator 10 rest
    → trace_text t fs ≡ trace_text s es ++ rest → rest ≡ []
text_parts_end_in_line_feed s t es fs rest h k clean e =
    let lines : (text_parts_head t ∷ (text_parts_of_events 0 fs ++ [] ∷ [])) ≡ (text_parts_head s ∷ (text_parts_of_events 0 es ++ rest ∷ [])) =
    sym (text_parts_of_trace t fs k) ∙ ap (parts_of_read_line 10) e ∙ text_parts_and_more s es rest h
    ∙ ap (λ (x : List (List ℕ)). text_parts_head s ∷ (text_parts_of_events 0 es ++ x)) (separator_absent_one_word 10 rest clean) in
    let others : text_parts_of_events 0 es ++ rest ∷ [] ≡ text_parts_of_events 0 fs ++ [] ∷ [] = cc in
    text_parts_last_same (text_parts_of_events 0 es) (text_parts_of_events 0 fs) rest [] others

-- and has one
pub text_parts_have_line_feed : (t : Sizes) (fs : List Event) → IsLawfulTrace t fs → HasNoSeparator 10 (trace_text t fs) → ⊥
text_parts_have_line_feed t fs k clean =
    let lines : (text_parts_head t ∷ (text_parts_of_events 0 fs ++ [] ∷ [])) ≡ (trace_text t fs ∷ []) =
    sym (text_parts_of_trace t fs k) ∙ separator_absent_one_word 10 (trace_text t fs) clean in
    let none : text_parts_of_events 0 fs ++ [] ∷ [] ≡ [] = cc in
    omega (arith, ap (λ (x : List (List ℕ)). length x) none, length-append (text_parts_of_events 0 fs) ([] ∷ []))
