-- The line of an event: its words, and that no other event has it.
use Rattle.std.proofs.Common.{◌≡◌, ℕ, ◌^◌, ◌<◌, true, not, ◌&&◌, eqb, ltb, List, [], ◌∷◌, ◌++◌, length, map, Some, refl, sym, ap, subst, ◌∙◌, append_assoc, append-nil, arith}
use Rattle.std.specs.Prelude.{codes}
use Rattle.std.specs.List.{list_all, flat_map, AllByRecursion}
use Rattle.std.specs.Fmt.{decimal}
use Rattle.std.proofs.lemmas.Bool.{and_parts}
use Rattle.std.proofs.lemmas.List.{length-map}
use Rattle.journal.specs.declared.event.Event.{Event}
use Rattle.journal.specs.declared.event.Kind.{Kind}
use Rattle.journal.specs.declared.event.Kind.TheVariants as kind
use Rattle.lrc_script.specs.ScriptFaults.{IsWordOfLine, IsLineSplit}
use Rattle.lrc_script.specs.LineReading.{line_read_number, line_read_numbers_after}
use Rattle.lrc_script.proofs.Reading.DecimalNumbers.{AreDecimalNumbers, decimal_number_again, decimal_numbers_again}
use Rattle.lrc_script.proofs.Reading.Separators.{HasNoSeparator, HasNoSeparator-append, separator_joined, separator_words_of_split}
use Rattle.lrc_script.proofs.Reading.KeywordLines.{keyword_line_decimal_has_no, keyword_line_numbers_are_words, is_plain_keyword_line, keyword_line_split, keyword_line_plain_bytes}
use Rattle.lrc_report.specs.ReportText.{report_event_text, report_kind_text}
use Rattle.lrc_check.specs.declared.traces.event_name.EventName.{EventName}
use Rattle.lrc_check.specs.declared.traces.event_name.EventName.TheVariants.{Load, Store, Fetch, Ask, Acquire, Release, Arrive, Depart, Set, Watch, Await}
use Rattle.lrc_check.specs.Traces.Names.{trace_name_meaning, trace_name_numbers, trace_name_word}
use Rattle.lrc_check.specs.Traces.TraceLines.{IsTraceLineShaped}
use Rattle.lrc_check.proofs.traces.NamedKinds.{named_kind_again, named_kind_name, named_kinds_differ, named_kind_numbers_counted}

-- the words of an event's line, behind the first
abbrev pub event_words_of_line : ℕ → Event → List (List ℕ)
event_words_of_line i e = decimal i ∷ decimal e.processor ∷ trace_name_word (named_kind_name e.kind) ∷ map decimal (trace_name_numbers e.kind)

-- the line without its line feed
abbrev pub event_words_bytes : ℕ → Event → List ℕ
event_words_bytes i e = separator_joined 32 (codes "event") (event_words_of_line i e)

-- two, with a space between them
event_words_glued : (a b : List ℕ) → (a ++ 32 ∷ []) ++ b ≡ a ++ 32 ∷ b
event_words_glued a b = append_assoc a (32 ∷ []) b

-- one number, two and four, and the line feed
one : (a : List ℕ) → a ++ 10 ∷ [] ≡ (a ++ []) ++ 10 ∷ []
one a = ap (λ (t : List ℕ). t ++ 10 ∷ []) (sym (append-nil a))

event_words_of_two_numbers : (a b : List ℕ) → ((a ++ 32 ∷ []) ++ b) ++ 10 ∷ [] ≡ (a ++ 32 ∷ (b ++ [])) ++ 10 ∷ []
event_words_of_two_numbers a b =
    ap (λ (t : List ℕ). t ++ 10 ∷ []) (event_words_glued a b ∙ ap (λ (t : List ℕ). a ++ 32 ∷ t) (sym (append-nil b)))

event_words_of_four_numbers : (a b c d : List ℕ)
    → ((((((a ++ 32 ∷ []) ++ b) ++ 32 ∷ []) ++ c) ++ 32 ∷ []) ++ d) ++ 10 ∷ []
    ≡ (a ++ 32 ∷ (b ++ 32 ∷ (c ++ 32 ∷ (d ++ [])))) ++ 10 ∷ []
event_words_of_four_numbers a b c d =
    let ab = (a ++ 32 ∷ []) ++ b in
    let three : ((ab ++ 32 ∷ []) ++ c) ≡ a ++ 32 ∷ (b ++ 32 ∷ c) =
    event_words_glued ab c ∙ ap (λ (t : List ℕ). t ++ 32 ∷ c) (event_words_glued a b) ∙ append_assoc a (32 ∷ b) (32 ∷ c) in
    let whole : ((((ab ++ 32 ∷ []) ++ c) ++ 32 ∷ []) ++ d) ≡ a ++ 32 ∷ (b ++ 32 ∷ (c ++ 32 ∷ d)) =
    event_words_glued ((ab ++ 32 ∷ []) ++ c) d ∙ ap (λ (t : List ℕ). t ++ 32 ∷ d) three
    ∙ append_assoc a (32 ∷ (b ++ 32 ∷ c)) (32 ∷ d)
    ∙ ap (λ (t : List ℕ). a ++ 32 ∷ t) (append_assoc b (32 ∷ c) (32 ∷ d)) in
    ap (λ (t : List ℕ). t ++ 10 ∷ [])
    (whole ∙ ap (λ (t : List ℕ). a ++ 32 ∷ (b ++ 32 ∷ (c ++ 32 ∷ t))) (sym (append-nil d)))

-- what is said of what an event did: its name, and its numbers
event_words_of_kind : (k : Kind)
    → report_kind_text k ≡ flat_map (λ v. 32 ∷ v) (trace_name_word (named_kind_name k) ∷ map decimal (trace_name_numbers k)) ++ 10 ∷ []
event_words_of_kind (kind.Load a v) = ap (λ (t : List ℕ). codes " load " ++ t) (event_words_of_two_numbers (decimal a) (decimal v))
event_words_of_kind (kind.Store a v) = ap (λ (t : List ℕ). codes " store " ++ t) (event_words_of_two_numbers (decimal a) (decimal v))
event_words_of_kind (kind.Fetch w n r d) =
    ap (λ (t : List ℕ). codes " fetch " ++ t) (event_words_of_four_numbers (decimal n) (decimal w) (decimal r) (decimal d))
event_words_of_kind (kind.Ask l) = ap (λ (t : List ℕ). codes " ask " ++ t) (one (decimal l))
event_words_of_kind (kind.Acquire l) = ap (λ (t : List ℕ). codes " acquire " ++ t) (one (decimal l))
event_words_of_kind (kind.Release l) = ap (λ (t : List ℕ). codes " release " ++ t) (one (decimal l))
event_words_of_kind kind.Arrive = refl
event_words_of_kind kind.Depart = refl
event_words_of_kind (kind.Set f) = ap (λ (t : List ℕ). codes " set " ++ t) (one (decimal f))
event_words_of_kind (kind.Watch f) = ap (λ (t : List ℕ). codes " watch " ++ t) (one (decimal f))
event_words_of_kind (kind.Await f) = ap (λ (t : List ℕ). codes " await " ++ t) (one (decimal f))

event_words_framed : (i p f : List ℕ) → ((i ++ 32 ∷ []) ++ p) ++ (f ++ 10 ∷ []) ≡ (i ++ 32 ∷ (p ++ f)) ++ 10 ∷ []
event_words_framed i p f =
    ap (λ (t : List ℕ). t ++ (f ++ 10 ∷ [])) (event_words_glued i p) ∙ sym (append_assoc (i ++ 32 ∷ p) f (10 ∷ []))
    ∙ ap (λ (t : List ℕ). t ++ 10 ∷ []) (append_assoc i (32 ∷ p) f)

-- an event's line is its words, with one space before each but the first, and a line feed
pub event_words_are_line : (i : ℕ) (e : Event) → report_event_text i e ≡ event_words_bytes i e ++ 10 ∷ []
event_words_are_line i e =
    let said = flat_map (λ (v : List ℕ). 32 ∷ v) (trace_name_word (named_kind_name e.kind) ∷ map decimal (trace_name_numbers e.kind)) in
    ap (λ (t : List ℕ). ((codes "event " ++ decimal i ++ codes " ") ++ decimal e.processor) ++ t) (event_words_of_kind e.kind)
    ∙ ap (λ (t : List ℕ). codes "event " ++ t) (event_words_framed (decimal i) (decimal e.processor) said)

-- ---- its words

-- a plain word
pub event_words_plain_word : (w : List ℕ) → is_plain_keyword_line w ≡ true → IsWordOfLine w × HasNoSeparator 10 w
event_words_plain_word w plain =
    let both = and_parts (ltb 0 (length w)) (list_all (λ b. not (eqb b 32) && not (eqb b 10)) w) plain in
    ((keyword_line_split w [] plain tt).first, (keyword_line_plain_bytes w both.1).1)

event_words_plain_name : (n : EventName) → is_plain_keyword_line (trace_name_word n) ≡ true
event_words_plain_name Load = refl
event_words_plain_name Store = refl
event_words_plain_name Fetch = refl
event_words_plain_name Ask = refl
event_words_plain_name Acquire = refl
event_words_plain_name Release = refl
event_words_plain_name Arrive = refl
event_words_plain_name Depart = refl
event_words_plain_name Set = refl
event_words_plain_name Watch = refl
event_words_plain_name Await = refl

-- words of which each has bytes, and none a space or a line feed
abbrev pub AreCleanEventWords : List (List ℕ) → Type 0
AreCleanEventWords ws = AllByRecursion (λ w. IsWordOfLine w × HasNoSeparator 10 w) ws

event_words_clean_each : (ws : List (List ℕ)) → AreCleanEventWords ws → AllByRecursion IsWordOfLine ws
event_words_clean_each [] h = tt
event_words_clean_each (w ∷ ws) h = (h.0.0, event_words_clean_each ws h.1)

pub event_words_clean_line : (ws : List (List ℕ)) → AreCleanEventWords ws → HasNoSeparator 10 (flat_map (λ v. 32 ∷ v) ws)
event_words_clean_line [] h = tt
event_words_clean_line (w ∷ ws) h =
    HasNoSeparator-append 10 (32 ∷ w) (flat_map (λ v. 32 ∷ v) ws) (λ e. absurd (omega (arith, e)), h.0.1) (event_words_clean_line ws h.1)

pub event_words_clean_decimals : (ns : List ℕ) → AreDecimalNumbers ns → AreCleanEventWords (map decimal ns)
event_words_clean_decimals [] small = tt
event_words_clean_decimals (n ∷ ns) small =
    let word = keyword_line_numbers_are_words (n ∷ []) (small.0, tt) in
    ((word.0, keyword_line_decimal_has_no 10 n (omega arith) small.0), event_words_clean_decimals ns small.1)

-- the numbers of an event and its place are below 2 ^ 32
abbrev pub AreEventWordsNumbers : ℕ → Event → Type 0
AreEventWordsNumbers i e = AreDecimalNumbers (i ∷ e.processor ∷ trace_name_numbers e.kind)

event_words_clean : (i : ℕ) (e : Event) → AreEventWordsNumbers i e → AreCleanEventWords (event_words_of_line i e)
event_words_clean i e small =
    let place = event_words_clean_decimals (i ∷ []) (small.0, tt) in
    let processor = event_words_clean_decimals (e.processor ∷ []) (small.1.0, tt) in
    (place.0, (processor.0, (event_words_plain_word _ (event_words_plain_name (named_kind_name e.kind)), event_words_clean_decimals _ small.1.1)))

-- the line is split into the words
pub event_words_split : (i : ℕ) (e : Event) → AreEventWordsNumbers i e → IsLineSplit (event_words_bytes i e) (codes "event") (event_words_of_line i e)
event_words_split i e small = record {
  first = (event_words_plain_word (codes "event") refl).0;
  others = event_words_clean_each (event_words_of_line i e) (event_words_clean i e small);
  whole = refl;
}

-- it is one line
pub event_words_clean_bytes : (i : ℕ) (e : Event) → AreEventWordsNumbers i e → HasNoSeparator 10 (event_words_bytes i e)
event_words_clean_bytes i e small =
    HasNoSeparator-append 10 (codes "event") (flat_map (λ v. 32 ∷ v) (event_words_of_line i e)) (event_words_plain_word (codes "event") refl).1
    (event_words_clean_line (event_words_of_line i e) (event_words_clean i e small))

-- an event's line has the shape of one
pub event_words_shaped : (i : ℕ) (e : Event) → AreEventWordsNumbers i e
    → IsTraceLineShaped (event_words_bytes i e) (decimal i) (decimal e.processor) (named_kind_name e.kind) (map decimal (trace_name_numbers e.kind))
event_words_shaped i e small = record {
  split = event_words_split i e small;
  count = length-map (trace_name_numbers e.kind) decimal ∙ named_kind_numbers_counted e.kind;
}

-- ---- a line is split in one way

pub event_words_splits_agree : (line w v : List ℕ) (ws vs : List (List ℕ)) → IsLineSplit line w ws → IsLineSplit line v vs
    → (w ≡ v) × (ws ≡ vs)
event_words_splits_agree line w v ws vs h k =
    let same : (w ∷ ws) ≡ (v ∷ vs) = sym (separator_words_of_split line w ws h).0 ∙ (separator_words_of_split line v vs k).0 in
    (cc, cc)

-- what two shapes of one line have in common: all
pub record AreEventWordsShapedAlike (a b : List ℕ) (n : EventName) (ws : List (List ℕ)) (c d : List ℕ) (m : EventName) (vs : List (List ℕ))
    : Type 0 where
  pub place : a ≡ c
  pub processor : b ≡ d
  pub name : n ≡ m
  pub numbers : ws ≡ vs

pub event_words_shapes_agree : (line a b : List ℕ) (n : EventName) (ws : List (List ℕ)) (c d : List ℕ) (m : EventName)
    (vs : List (List ℕ)) → IsTraceLineShaped line a b n ws → IsTraceLineShaped line c d m vs → AreEventWordsShapedAlike a b n ws c d m vs
event_words_shapes_agree line a b n ws c d m vs h k =
    let same = (event_words_splits_agree line _ _ _ _ h.split k.split).1 in
    let names : trace_name_word n ≡ trace_name_word m = cc in
    record { place = cc; processor = cc; name = named_kinds_differ n m names; numbers = cc }

event_words_decimal_same : (i j : ℕ) → i < 2 ^ 32 → j < 2 ^ 32 → decimal i ≡ decimal j → i ≡ j
event_words_decimal_same i j small less e =
    let first = decimal_number_again i small in let second = decimal_number_again j less in let both = ap line_read_number e in
    let same : Some i ≡ Some j = cc in cc

pub event_words_decimals_same : (ns ms : List ℕ) → AreDecimalNumbers ns → AreDecimalNumbers ms → map decimal ns ≡ map decimal ms → ns ≡ ms
event_words_decimals_same ns ms small less e =
    let first = decimal_numbers_again [] ns small in let second = decimal_numbers_again [] ms less in
    let both = ap (line_read_numbers_after []) e in
    let same : ns ≡ ms = cc in same

event_words_kinds_same : (j k : Kind) → named_kind_name j ≡ named_kind_name k → trace_name_numbers j ≡ trace_name_numbers k → j ≡ k
event_words_kinds_same j k names numbers =
    let first = named_kind_again j in let second = named_kind_again k in
    let both : trace_name_meaning (named_kind_name j) (trace_name_numbers j) ≡ trace_name_meaning (named_kind_name k) (trace_name_numbers k) =
    ap (λ (n : EventName). trace_name_meaning n (trace_name_numbers j)) names ∙ ap (trace_name_meaning (named_kind_name k)) numbers in
    let same : Some j ≡ Some k = cc in cc

-- two events at their places aren't written alike
pub event_words_differ : (i j : ℕ) (e f : Event) → AreEventWordsNumbers i e → AreEventWordsNumbers j f → event_words_bytes i e ≡ event_words_bytes j f
    → (i ≡ j) × (e ≡ f)
event_words_differ i j e f small less same =
    let other =
    subst (λ (line : List ℕ). IsTraceLineShaped line (decimal j) (decimal f.processor) (named_kind_name f.kind)
    (map decimal (trace_name_numbers f.kind)))
    (sym same) (event_words_shaped j f less) in
    let agree = event_words_shapes_agree (event_words_bytes i e) _ _ _ _ _ _ _ _ (event_words_shaped i e small) other in
    let numbers = event_words_decimals_same (trace_name_numbers e.kind) (trace_name_numbers f.kind) small.1.1 less.1.1 agree.numbers in
    let kinds = event_words_kinds_same e.kind f.kind agree.name numbers in
    let processors = event_words_decimal_same e.processor f.processor small.1.0 less.1.0 agree.processor in (
      event_words_decimal_same i j small.0 less.0 agree.place,
      ap (λ (p : ℕ). record { processor = p; kind = e.kind }) processors
          ∙ ap (λ (k : Kind). record { processor = f.processor; kind = k }) kinds,
    )
