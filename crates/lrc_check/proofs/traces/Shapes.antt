-- What a line's words say of its shape, its numbers and its event.
use Rattle.std.proofs.Common.{◌≡◌, ◌≢◌, ℕ, ◌^◌, ◌<◌, ◌≤◌, Bool, true, false, not, List, [], ◌∷◌, ◌++◌, length, map, Some, None, Ok, Err, refl, sym, ap, subst, ◌∙◌, arith}
use Rattle.std.specs.Prelude.{codes}
use Rattle.std.specs.List.{list_all, flat_map}
use Rattle.std.specs.Fmt.{decimal}
use Rattle.std.specs.Str.{bytes_eq}
use Rattle.std.proofs.lemmas.Slice.Eq.{bytes_eq-Decides}
use Rattle.std.proofs.lemmas.List.{length-map}
use Rattle.std.proofs.lemmas.List.Elements.{Contains-append_right}
use Rattle.journal.specs.declared.event.Event.{Event}
use Rattle.journal.specs.declared.event.Kind.{Kind}
use Rattle.lrc_script.specs.declared.fault.ScriptFault.{ScriptFault}
use Rattle.lrc_script.specs.declared.fault.ScriptFault.TheVariants as script
use Rattle.lrc_script.specs.LineReading.{LineReadFails, line_read_word_has_bytes, line_read_number, line_read_numbers_after, parts_of_read_line}
use Rattle.lrc_script.proofs.Reading.DecimalNumbers.{AreDecimalNumbers, decimal_number_again, decimal_number_taken, decimal_numbers_refused, decimal_numbers_taken}
use Rattle.lrc_script.proofs.Reading.Separators.{separator_joined, separator_words_of_split, separator_parts_whole, separator_split_from_parts}
use Rattle.lrc_check.specs.declared.traces.fault.TraceFault.{TraceFault}
use Rattle.lrc_check.specs.declared.traces.event_name.EventName.{EventName}
use Rattle.lrc_check.specs.Traces.Names.{trace_name_operand_count, trace_name_meaning, trace_name_of_word, trace_name_numbers, trace_name_word}
use Rattle.lrc_check.specs.Traces.TraceLines.{TraceLineGivesKind, HasBadTraceLineNumber, HasNoTraceLineShape, IsTraceLineOfEvent, IsTraceLineShaped}
use Rattle.lrc_check.specs.Traces.TraceFaults.{IsTraceFaultOfNoEvent, trace_fault_from_script}
use Rattle.lrc_check.proofs.traces.NamedKinds.{named_kind_counted, named_kind_taken, named_kind_spelled_again, named_kind_name, named_kind_spelled}
use Rattle.lrc_check.proofs.traces.EventWords.{event_words_bytes, event_words_are_line}

-- the first four words, and what is left
pub trace_shape_four_words : (line : List ℕ) (w a b x : List ℕ) (l m n o : List (List ℕ)) → parts_of_read_line 32 line ≡ w ∷ l → l ≡ a ∷ m
    → m ≡ b ∷ n → n ≡ x ∷ o → parts_of_read_line 32 line ≡ w ∷ a ∷ b ∷ x ∷ o
trace_shape_four_words line w a b x l m n o first second third fourth =
    first ∙ ap (λ (t : List (List ℕ)). w ∷ t) second ∙ ap (λ (t : List (List ℕ)). w ∷ a ∷ t) third
    ∙ ap (λ (t : List (List ℕ)). w ∷ a ∷ b ∷ t) fourth

-- what a comparison of words says
pub trace_shape_words_differ : (a text b : List ℕ) (r : Bool) → r ≡ not (bytes_eq a text) → r ≡ true → text ≡ b → a ≢ b
trace_shape_words_differ a text b r test is same equal =
    let both = (bytes_eq-Decides a text).1 (equal ∙ sym same) in
    let false-is-true : false ≡ true = ap not (sym both) ∙ sym test ∙ is in absurd cc

pub trace_shape_words_same : (a text b : List ℕ) (r : Bool) → r ≡ not (bytes_eq a text) → r ≡ false → text ≡ b → a ≡ b
trace_shape_words_same a text b r test is same =
    elim (bytes_eq a text) as (λ t. bytes_eq a text ≡ t → r ≡ not t → a ≡ b) [
      | true ↦ λ e h. (bytes_eq-Decides a text).0 e ∙ same
      | false ↦ λ e h. absurd (let true-is-false : true ≡ false = sym h ∙ is in cc)
    ] refl test

-- the words of a line that has a shape
shape_parts : (line a b : List ℕ) (n : EventName) (ns : List (List ℕ)) → IsTraceLineShaped line a b n ns
    → (parts_of_read_line 32 line ≡ codes "event" ∷ a ∷ b ∷ trace_name_word n ∷ ns) × (list_all line_read_word_has_bytes (parts_of_read_line 32 line) ≡ true)
shape_parts line a b n ns h =
    let p = separator_words_of_split line _ _ h.split in (p.0, ap (list_all line_read_word_has_bytes) p.0 ∙ p.1)

-- words with the shape
pub shaped_from : (line w a b x : List ℕ) (n : EventName) (ns : List (List ℕ))
    → parts_of_read_line 32 line ≡ w ∷ a ∷ b ∷ x ∷ ns → list_all line_read_word_has_bytes (parts_of_read_line 32 line) ≡ true → w ≡ codes "event"
    → trace_name_of_word x ≡ Some n → length ns ≡ trace_name_operand_count n → IsTraceLineShaped line a b n ns
shaped_from line w a b x n ns parts have event name count =
    let word = named_kind_spelled x n name in
    let parts' : parts_of_read_line 32 line ≡ codes "event" ∷ a ∷ b ∷ trace_name_word n ∷ ns =
    parts ∙ ap (λ (t : List ℕ). t ∷ a ∷ b ∷ x ∷ ns) event
    ∙ ap (λ (t : List ℕ). codes "event" ∷ a ∷ b ∷ t ∷ ns) word in
    record {
      split = separator_split_from_parts line (codes "event") (a ∷ b ∷ trace_name_word n ∷ ns) parts'
          (ap (list_all line_read_word_has_bytes) (sym parts') ∙ have);
      count = count;
    }

-- words without it
pub no_shape_by_words : (line : List ℕ) → list_all line_read_word_has_bytes (parts_of_read_line 32 line) ≡ false → HasNoTraceLineShape line
no_shape_by_words line have a b n ns h =
    let p = shape_parts line a b n ns h in let same : false ≡ true = sym have ∙ p.1 in absurd cc

pub no_shape_by_first_word : (line w : List ℕ) (ws : List (List ℕ)) → parts_of_read_line 32 line ≡ w ∷ ws → w ≢ codes "event"
    → HasNoTraceLineShape line
no_shape_by_first_word line w ws parts ne a b n ns h =
    let p = (shape_parts line a b n ns h).0 in
    ne (let same : (w ∷ ws) ≡ (codes "event" ∷ a ∷ b ∷ trace_name_word n ∷ ns) = sym parts ∙ p in cc)

pub no_shape_if_short : (line : List ℕ) (ws : List (List ℕ)) → parts_of_read_line 32 line ≡ ws → length ws ≤ 3 → HasNoTraceLineShape line
no_shape_if_short line ws parts short a b n ns h =
    let p = (shape_parts line a b n ns h).0 in
    omega (arith, ap (λ (t : List (List ℕ)). length t) (sym parts ∙ p), short)

pub no_shape_by_name : (line w a b x : List ℕ) (ns : List (List ℕ)) → parts_of_read_line 32 line ≡ w ∷ a ∷ b ∷ x ∷ ns
    → trace_name_of_word x ≡ None → HasNoTraceLineShape line
no_shape_by_name line w a b x ns parts none a' b' n ms h =
    let p = (shape_parts line a' b' n ms h).0 in
    let same : (w ∷ a ∷ b ∷ x ∷ ns) ≡ (codes "event" ∷ a' ∷ b' ∷ trace_name_word n ∷ ms) = sym parts ∙ p in
    let word : x ≡ trace_name_word n = cc in
    let again : Some n ≡ None = sym (named_kind_spelled_again n) ∙ ap trace_name_of_word (sym word) ∙ none in
    absurd cc

pub no_shape_by_count : (line w a b x : List ℕ) (m : EventName) (ns : List (List ℕ)) → parts_of_read_line 32 line ≡ w ∷ a ∷ b ∷ x ∷ ns
    → trace_name_of_word x ≡ Some m → length ns ≢ trace_name_operand_count m → HasNoTraceLineShape line
no_shape_by_count line w a b x m ns parts some ne a' b' n ms h =
    let p = (shape_parts line a' b' n ms h).0 in
    let same : (w ∷ a ∷ b ∷ x ∷ ns) ≡ (codes "event" ∷ a' ∷ b' ∷ trace_name_word n ∷ ms) = sym parts ∙ p in
    let word : x ≡ trace_name_word n = cc in
    let again : Some n ≡ Some m = sym (named_kind_spelled_again n) ∙ ap trace_name_of_word (sym word) ∙ some in
    let names : n ≡ m = cc in
    let numbers : ns ≡ ms = cc in
    ne (ap (λ (t : List (List ℕ)). length t) numbers ∙ h.count ∙ ap trace_name_operand_count names)

-- ---- numbers

trace_shape_no_number : (w : List ℕ) → line_read_number w ≡ None → (n : ℕ) → n < 2 ^ 32 → w ≢ decimal n
trace_shape_no_number w none n small same =
    let again : None ≡ Some n = sym none ∙ ap line_read_number same ∙ decimal_number_again n small in cc

pub trace_shape_bad_place : (line a b : List ℕ) (n : EventName) (ns : List (List ℕ)) → IsTraceLineShaped line a b n ns → line_read_number a ≡ None
    → HasBadTraceLineNumber line
trace_shape_bad_place line a b n ns h none = record {
  place = a;
  processor = b;
  name = n;
  numbers = ns;
  shape = h;
  bad = a;
  within = (0, omega arith, refl);
  no_number = trace_shape_no_number a none;
}

pub trace_shape_bad_processor : (line a b : List ℕ) (n : EventName) (ns : List (List ℕ)) → IsTraceLineShaped line a b n ns
    → line_read_number b ≡ None → HasBadTraceLineNumber line
trace_shape_bad_processor line a b n ns h none = record {
  place = a;
  processor = b;
  name = n;
  numbers = ns;
  shape = h;
  bad = b;
  within = (1, omega arith, refl);
  no_number = trace_shape_no_number b none;
}

trace_shape_bad_others : (line a b : List ℕ) (n : EventName) (ns : List (List ℕ)) (e : ScriptFault) → IsTraceLineShaped line a b n ns
    → line_read_numbers_after [] ns ≡ Err e → (e ≡ script.BadNumber) × HasBadTraceLineNumber line
trace_shape_bad_others line a b n ns e h read =
    let refused = decimal_numbers_refused [] ns e read in (
      refused.fault_is,
      record {
        place = a;
        processor = b;
        name = n;
        numbers = ns;
        shape = h;
        bad = refused.word;
        within = Contains-append_right (a ∷ b ∷ []) ns refused.word refused.within;
        no_number = refused.none;
      },
    )

-- why the numbers behind the name weren't read
pub trace_shape_numbers_fault : (line a b : List ℕ) (n : EventName) (ns : List (List ℕ)) (e : ScriptFault) (f : TraceFault)
    → IsTraceLineShaped line a b n ns → LineReadFails e (line_read_numbers_after [] ns) → f ≡ trace_fault_from_script e → IsTraceFaultOfNoEvent f line
trace_shape_numbers_fault line a b n ns script.NoMemory f h read same =
    subst (λ (x : TraceFault). IsTraceFaultOfNoEvent x line) (sym same) tt
trace_shape_numbers_fault line a b n ns e f h read same =
    let bad = trace_shape_bad_others line a b n ns e h read in
    subst (λ (x : TraceFault). IsTraceFaultOfNoEvent x line) (sym (same ∙ ap trace_fault_from_script bad.0)) bad.1

-- ---- the event

-- as many numbers as stand behind the name make a kind
pub trace_shape_kind_read : (line a b : List ℕ) (n : EventName) (ns : List (List ℕ)) (ms : List ℕ) → IsTraceLineShaped line a b n ns
    → line_read_numbers_after [] ns ≡ Ok ms → trace_name_meaning n ms ≡ None → ⊥
trace_shape_kind_read line a b n ns ms h read none =
    let t = decimal_numbers_taken [] ns ms read in
    let long : length ms ≡ trace_name_operand_count n =
    ap (λ (x : List ℕ). length x) t.all_is ∙ sym (length-map t.numbers decimal)
    ∙ ap (λ (x : List (List ℕ)). length x) (sym t.words_are) ∙ h.count in
    named_kind_counted n ms long none

-- what is read of an event's words
trace_shape_event_whole : (line a b : List ℕ) (n : EventName) (ns : List (List ℕ)) (i p : ℕ) (ms : List ℕ) (k : Kind)
    → line ≡ separator_joined 32 (codes "event") (a ∷ b ∷ trace_name_word n ∷ ns) → line_read_number a ≡ Some i → line_read_number b ≡ Some p
    → line_read_numbers_after [] ns ≡ Ok ms → trace_name_meaning n ms ≡ Some k
    → IsTraceLineOfEvent line i (record { processor = p; kind = k })
trace_shape_event_whole line a b n ns i p ms k whole place processor read kind =
    let e : Event = record { processor = p; kind = k } in
    let t = decimal_numbers_taken [] ns ms read in
    let c = named_kind_taken n ms k kind in
    let a-is = decimal_number_taken a i place in
    let b-is = decimal_number_taken b p processor in
    let numbers : trace_name_numbers k ≡ t.numbers = sym c.numbers_are ∙ t.all_is in
    let words : (a ∷ b ∷ trace_name_word n ∷ ns)
    ≡ (decimal i ∷ decimal p ∷ trace_name_word (named_kind_name k) ∷ map decimal (trace_name_numbers k)) =
    ap (λ (x : List ℕ). x ∷ b ∷ trace_name_word n ∷ ns) a-is.0
    ∙ ap (λ (x : List ℕ). decimal i ∷ x ∷ trace_name_word n ∷ ns) b-is.0
    ∙ ap (λ (x : EventName). decimal i ∷ decimal p ∷ trace_name_word x ∷ ns) c.name_is
    ∙ ap (λ (x : List (List ℕ)). decimal i ∷ decimal p ∷ trace_name_word (named_kind_name k) ∷ x)
    (t.words_are ∙ ap (map decimal) (sym numbers)) in
    let bytes : line ≡ event_words_bytes i e =
    whole ∙ ap (λ (x : List (List ℕ)). codes "event" ++ flat_map (λ v. 32 ∷ v) x) words in
    record {
      line_is = ap (λ (x : List ℕ). x ++ 10 ∷ []) bytes ∙ sym (event_words_are_line i e);
      small = (a-is.1, (b-is.1, subst AreDecimalNumbers (sym numbers) t.small));
    }

-- what is read of an event's line
pub trace_shape_event_found : (line a b : List ℕ) (n : EventName) (ns : List (List ℕ)) (i p : ℕ) (ms : List ℕ) (k : Kind)
    → IsTraceLineShaped line a b n ns → line_read_number a ≡ Some i → line_read_number b ≡ Some p → line_read_numbers_after [] ns ≡ Ok ms
    → trace_name_meaning n ms ≡ Some k → IsTraceLineOfEvent line i (record { processor = p; kind = k })
trace_shape_event_found line a b n ns i p ms k h place processor read kind =
    trace_shape_event_whole line a b n ns i p ms k h.split.whole place processor read kind

-- what is read of its words, whose shape the numbers show
pub trace_shape_event_quick : (line w a b x : List ℕ) (n : EventName) (ns : List (List ℕ)) (i p : ℕ) (k : Kind)
    → parts_of_read_line 32 line ≡ w ∷ a ∷ b ∷ x ∷ ns → w ≡ codes "event" → trace_name_of_word x ≡ Some n → line_read_number a ≡ Some i
    → line_read_number b ≡ Some p → TraceLineGivesKind n ns k → IsTraceLineOfEvent line i (record { processor = p; kind = k })
trace_shape_event_quick line w a b x n ns i p k parts event name place processor gives =
    let parts' : parts_of_read_line 32 line ≡ codes "event" ∷ a ∷ b ∷ trace_name_word n ∷ ns =
    parts ∙ ap (λ (t : List ℕ). t ∷ a ∷ b ∷ x ∷ ns) event
    ∙ ap (λ (t : List ℕ). codes "event" ∷ a ∷ b ∷ t ∷ ns) (named_kind_spelled x n name) in
    trace_shape_event_whole line a b n ns i p gives.numbers k
    (separator_parts_whole 32 line (codes "event") (a ∷ b ∷ trace_name_word n ∷ ns) parts') place processor gives.read gives.kind
