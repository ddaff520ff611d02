-- A line of which a fault says what is wrong is no trace's next line.
use Rattle.std.proofs.Common.{◌≡◌, ℕ, ◌^◌, ◌<◌, List, [], ◌∷◌, ◌++◌, length, map, refl, sym, ap, subst, ◌∙◌, arith}
use Rattle.std.specs.Prelude.{codes, Contains}
use Rattle.std.specs.List.{AllByRecursion}
use Rattle.std.specs.Fmt.{decimal}
use Rattle.std.proofs.lemmas.List.{append_cancel_right}
use Rattle.std.proofs.lemmas.List.Elements.{All-contains, All-from_recursion}
use Rattle.journal.specs.declared.event.Event.{Event}
use Rattle.journal.specs.declared.event.Kind.{Kind}
use Rattle.journal.specs.declared.event.Kind.TheVariants as kind
use Rattle.journal.specs.Sizes.{Sizes}
use Rattle.journal.specs.WellFormed.{WellFormedKindInRange}
use Rattle.lrc_script.proofs.Reading.DecimalNumbers.{AreDecimalNumbers}
use Rattle.lrc_script.proofs.Reading.Separators.{HasNoSeparator}
use Rattle.lrc_check.specs.declared.traces.fault.TraceFault.{TraceFault}
use Rattle.lrc_check.specs.declared.traces.fault.TraceFault.TheVariants.{Cut, BadLine, BadNumber, BadPlace, BadProcessor, OutOfRange, BadLock, BadFlag, TooLong}
use Rattle.lrc_check.specs.Traces.Sizes.{AreTraceSizes}
use Rattle.lrc_check.specs.Traces.TraceText.{trace_text}
use Rattle.lrc_check.specs.Traces.LawfulTraces.{IsLawfulTrace, IsWithinLawfulTrace, most_traced_events}
use Rattle.lrc_check.specs.Traces.Names.{trace_name_numbers}
use Rattle.lrc_check.specs.Traces.TraceLines.{HasBadTraceLineNumber, IsTraceLineOfCut, IsTraceLineOfEvent, IsNoTraceLineNumber, IsTraceLineShaped}
use Rattle.lrc_check.specs.Traces.TraceFaults.{BeginsTraceText, TraceFaultSaysOfEvent, IsTraceFaultPast, TraceFaultSaysOfLine}
use Rattle.lrc_check.proofs.traces.CutLines.{cut_line_parts}
use Rattle.lrc_check.proofs.traces.EventWords.{event_words_bytes, event_words_shaped, event_words_differ, event_words_are_line, event_words_shapes_agree}
use Rattle.lrc_check.proofs.traces.Shapes.{no_shape_by_first_word}
use Rattle.lrc_check.proofs.traces.NamedKinds.{named_kind_name}
use Rattle.lrc_check.proofs.traces.TextParts.{IsNextOfTextParts, text_parts_event_small, text_parts_next_due}

-- the words that numbers are
never_bad_decimals_all : (ns : List ℕ) → AreDecimalNumbers ns
    → AllByRecursion (λ w. (n : ℕ) × (n < 2 ^ 32) × (w ≡ decimal n)) (map decimal ns)
never_bad_decimals_all [] small = tt
never_bad_decimals_all (n ∷ ns) small = ((n, small.0, refl), never_bad_decimals_all ns small.1)

-- none of them is no number
pub never_bad_number : (ns : List ℕ) (w : List ℕ) → AreDecimalNumbers ns → Contains (map decimal ns) w → IsNoTraceLineNumber w → ⊥
never_bad_number ns w small within none =
    let P : List ℕ → Type 0 = λ v. (n : ℕ) × (n < 2 ^ 32) × (v ≡ decimal n) in
    let n =
    All-contains P (map decimal ns) w (All-from_recursion P (map decimal ns) (never_bad_decimals_all ns small)) within in
    none n.0 n.1 n.2

-- what is within the sizes isn't past them
never_past_sizes : (f : TraceFault) (s : Sizes) (k : Kind) → WellFormedKindInRange s k → IsTraceFaultPast f s k → ⊥
never_past_sizes OutOfRange s (kind.Load a v) within past = omega arith
never_past_sizes OutOfRange s (kind.Store a v) within past = omega arith
never_past_sizes OutOfRange s (kind.Fetch w n r d) within past = omega arith
never_past_sizes BadLock s (kind.Ask l) within past = omega arith
never_past_sizes BadLock s (kind.Acquire l) within past = omega arith
never_past_sizes BadLock s (kind.Release l) within past = omega arith
never_past_sizes BadFlag s (kind.Set f) within past = omega arith
never_past_sizes BadFlag s (kind.Watch f) within past = omega arith
never_past_sizes BadFlag s (kind.Await f) within past = omega arith
never_past_sizes _ s k within past = absurd past

-- an event that may come next is none of which a fault says something
never_due_event : (f : TraceFault) (s : Sizes) (count place : ℕ) (e g : Event) → IsWithinLawfulTrace s g → count < most_traced_events
    → place ≡ count → e ≡ g → TraceFaultSaysOfEvent f s count place e → ⊥
never_due_event BadPlace s count place e g within room there same says = says there
never_due_event BadProcessor s count place e g within room there same says =
    omega (arith, within.processor, ap (λ (x : Event). x.processor) same, says)
never_due_event TooLong s count place e g within room there same says = omega (arith, room, says)
never_due_event f s count place e g within room there same says =
    never_past_sizes f s e.kind (subst (λ (x : Event). WellFormedKindInRange s x.kind) (sym same) within.kind) says

-- what was said of an event's line
never_due_event_line : (f : TraceFault) (s : Sizes) (es : List Event) (line : List ℕ) (place : ℕ) (e : Event)
    → AreTraceSizes s → IsNextOfTextParts s es line → IsTraceLineOfEvent line place e → TraceFaultSaysOfEvent f s (length es) place e → ⊥
never_due_event_line f s es line place e h next here says =
    let small = text_parts_event_small s (length es) next.event h (omega (arith, next.room)) next.within in
    let bytes : line ≡ event_words_bytes place e =
    append_cancel_right line (event_words_bytes place e) (10 ∷ []) (here.line_is ∙ event_words_are_line place e) in
    let agree =
    event_words_differ place (length es) e next.event here.small small (sym bytes ∙ next.line_is) in
    never_due_event f s (length es) place e next.event next.within next.room agree.0 agree.1 says

-- the shape of the next line
never_next_unshaped : (s : Sizes) (es : List Event) (line : List ℕ) → AreTraceSizes s → (n : IsNextOfTextParts s es line)
    → IsTraceLineShaped line (decimal (length es)) (decimal n.event.processor) (named_kind_name n.event.kind)
    (map decimal (trace_name_numbers n.event.kind))
never_next_unshaped s es line h n =
    let e = n.event in
    subst (λ (x : List ℕ). IsTraceLineShaped x (decimal (length es)) (decimal e.processor) (named_kind_name e.kind)
    (map decimal (trace_name_numbers e.kind)))
    (sym n.line_is)
    (event_words_shaped (length es) e (text_parts_event_small s (length es) e h (omega (arith, n.room)) n.within))

never_due_as_cut : (s : Sizes) (es : List Event) (line : List ℕ) → AreTraceSizes s → IsNextOfTextParts s es line → IsTraceLineOfCut line → ⊥
never_due_as_cut s es line h next cut =
    let parts = cut_line_parts line cut.0 cut.1 cut.2 cut.3 in
    no_shape_by_first_word line (codes "cut") (decimal cut.0 ∷ []) parts
    (λ e. omega (arith, ap (λ (x : List ℕ). length x) e)) _ _ _ _ (never_next_unshaped s es line h next)

never_due_bad_number : (s : Sizes) (es : List Event) (line : List ℕ) → AreTraceSizes s → IsNextOfTextParts s es line
    → HasBadTraceLineNumber line → ⊥
never_due_bad_number s es line h next b =
    let e = next.event in
    let small = text_parts_event_small s (length es) e h (omega (arith, next.room)) next.within in
    let agree = event_words_shapes_agree line _ _ _ _ _ _ _ _ b.shape (never_next_unshaped s es line h next) in
    let words : (b.place ∷ b.processor ∷ b.numbers)
    ≡ map decimal (length es ∷ e.processor ∷ trace_name_numbers e.kind) =
    ap (λ (x : List ℕ). x ∷ b.processor ∷ b.numbers) agree.place
    ∙ ap (λ (x : List ℕ). decimal (length es) ∷ x ∷ b.numbers) agree.processor
    ∙ ap (λ (x : List (List ℕ)). decimal (length es) ∷ decimal e.processor ∷ x) agree.numbers in
    never_bad_number (length es ∷ e.processor ∷ trace_name_numbers e.kind) b.bad small
    (subst (λ (x : List (List ℕ)). Contains x b.bad) words b.within) b.no_number

-- a line of which a fault says what is wrong isn't due
never_due_if_faulty : (f : TraceFault) (s : Sizes) (es : List Event) (line : List ℕ) → AreTraceSizes s → IsNextOfTextParts s es line
    → TraceFaultSaysOfLine f s (length es) line → ⊥
never_due_if_faulty Cut s es line h next says = never_due_as_cut s es line h next says.1
never_due_if_faulty BadLine s es line h next says = says.0 _ _ _ _ (never_next_unshaped s es line h next)
never_due_if_faulty BadNumber s es line h next says = never_due_bad_number s es line h next says
never_due_if_faulty f s es line h next says = never_due_event_line f s es line says.0 says.1 h next says.2 says.3

-- no trace has it there
pub never_begins : (f : TraceFault) (s : Sizes) (es : List Event) (line : List ℕ) → IsLawfulTrace s es → HasNoSeparator 10 line
    → TraceFaultSaysOfLine f s (length es) line → BeginsTraceText (trace_text s es ++ (line ++ 10 ∷ [])) → ⊥
never_begins f s es line h clean says begins =
    never_due_if_faulty f s es line h.sizes (text_parts_next_due s es line h clean begins) says
