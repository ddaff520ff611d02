-- Traces that are judged as they are read.
use Rattle.std.proofs.Common.{◌≡◌, ℕ, List, true≢false, [], ◌∷◌, ◌++◌, Option, Some, drop, length, take, subst, sym, refl, ap, ◌∙◌, append_assoc, append-nil, arith, length-append}
use Rattle.std.specs.Prelude.{None, IfSome, MatchOption}
use Rattle.std.proofs.lemmas.List.{take-append-drop}
use Rattle.std.proofs.lemmas.Option.{none-some, same_Some}
use Rattle.std.proofs.Math.Seq.{take-append_seam}
use Rattle.journal.specs.declared.event.Event.{Event}
use Rattle.journal.specs.Races.{Race}
use Rattle.judge.specs.JudgedSizes.{AreStreamedSizes, judged_sizes_of}
use Rattle.lrc_check.specs.declared.checked.Checked.{Checked}
use Rattle.lrc_check.specs.declared.checked.Rules.{Rules}
use Rattle.lrc_check.specs.declared.history_judge.HistoryJudge.{HistoryJudge}
use Rattle.lrc_check.specs.declared.trace_stream.TraceStream.{TraceStream}
use Rattle.lrc_check.specs.declared.traces.trace.TraceSizes.{TraceSizes}
use Rattle.lrc_check.specs.HistoryJudge.{IsNextPartOfHistory}
use Rattle.lrc_check.specs.Traces.Begun.{AreTraceSizesKept, IsTraceSoFar, trace_text_so_far}
use Rattle.lrc_check.specs.CheckVerdicts.{IsTrueCheckVerdict}
use Rattle.lrc_script.specs.ScriptFaults.{HasNoLineFeed}
use Rattle.lrc_check.specs.FoundInBytes.{IsFoundInBytes, IsFoundInUnfinished}
use Rattle.lrc_check.specs.Traces.FedText.{FedText, HasReadFedText, IsFedTextOf, IsFedTextWhole}
use Rattle.lrc_check.specs.Traces.Labels.{without_trace_labels}
use Rattle.lrc_check.specs.Traces.LawfulTraces.{IsLawfulTrace}
use Rattle.lrc_check.specs.Traces.Sizes.{trace_sizes_of}
use Rattle.lrc_check.specs.Traces.TraceText.{trace_text}
use Rattle.lrc_check.proofs.traces.Feeding.{feeding_unfinished}
use Rattle.lrc_check.proofs.FoundRaces.{found_is_race}
use Rattle.lrc_check.proofs.HistoryLocksets.{history_locksets_early}
use Rattle.lrc_check.specs.TraceStreams.{HasStreamReadOn, IsStreamEnd, IsStreamEndOf, IsFoundInStream, IsStreamJudge, IsStreamJudgeOf}

-- the sizes stay
stream_sizes_kept : (before after : Option TraceSizes) (known : TraceSizes) → AreTraceSizesKept before after → before ≡ Some known
    → after ≡ Some known
stream_sizes_kept None after known kept is = absurd (none-some known is)
stream_sizes_kept (Some s) after known kept is = kept ∙ is

-- the judge of what was read before is one of the beginning of what is read now
stream_judge_before : (r : Rules) (before after : Option TraceSizes) (j : List Event) (judge : Option HistoryJudge) → AreTraceSizesKept before after
    → IsStreamJudge r before j judge → MatchOption judge (j ≡ []) (IsStreamJudgeOf r after j)
stream_judge_before r before after j None kept is = is.1
stream_judge_before r before after j (Some h) kept is = record {
  known = is.known;
  sizes_are = stream_sizes_kept before after is.known kept is.sizes_are;
  judged_sizes = is.judged_sizes;
  rules_are = is.rules_are;
  judged = is.judged;
}

-- after a piece was read the judge is behind
pub stream_read_on : (x : TraceStream) (reader : FedText) (bytes : List ℕ) (front more : List Event)
    → IsStreamJudge x.rules x.reader.sizes (front ++ x.reader.events) x.judge → AreTraceSizesKept x.reader.sizes reader.sizes
    → reader.events ≡ x.reader.events ++ more → HasReadFedText bytes front reader
    → HasStreamReadOn front (length x.reader.events) (record x { reader = reader })
stream_read_on x reader bytes front more judged kept are read = record {
  trace = read.trace;
  within = (let long = length-append x.reader.events more in
      let same = ap (λ (xs : List Event). length xs) are in
      omega arith);
  judged = subst (λ xs. MatchOption x.judge (front ++ xs ≡ []) (IsStreamJudgeOf x.rules reader.sizes (front ++ xs))) (sym seen)
      (stream_judge_before x.rules x.reader.sizes reader.sizes (front ++ x.reader.events) x.judge kept judged);
}
  where
    seen : take (length x.reader.events) reader.events ≡ x.reader.events
    seen = ap (take (length x.reader.events)) are ∙ take-append_seam x.reader.events more

-- a trace of these sizes
stream_trace : (known : TraceSizes) (sizes : Option TraceSizes) (gone : ℕ) (front es : List Event) → sizes ≡ Some known
    → IsTraceSoFar sizes gone front es → IsLawfulTrace (trace_sizes_of known) (front ++ es)
stream_trace known None gone front es is trace = absurd (none-some known is)
stream_trace known (Some s) gone front es is trace =
    subst (λ t. IsLawfulTrace (trace_sizes_of t) (front ++ es)) (same_Some s known is) trace.1

-- its sizes are judged
pub stream_fits : {x : TraceStream} {front : List Event} {seen : ℕ} (known : TraceSizes) → HasStreamReadOn front seen x
    → x.reader.sizes ≡ Some known → AreStreamedSizes (trace_sizes_of known)
stream_fits {x} {front} known read is =
    (stream_trace known x.reader.sizes x.reader.gone front x.reader.events is read.trace).sizes.streamed

-- all events are those that were judged and the others
pub stream_all : (front es : List Event) (seen : ℕ) → (front ++ take seen es) ++ drop seen es ≡ front ++ es
stream_all front es seen =
    append_assoc front (take seen es) (drop seen es) ∙ ap (λ (xs : List Event). front ++ xs) (take-append-drop seen es)

-- the events that are left are the next part
pub stream_next_part : {x : TraceStream} {front : List Event} {seen : ℕ} (h : HistoryJudge) → HasStreamReadOn front seen x
    → IsStreamJudgeOf x.rules x.reader.sizes (front ++ take seen x.reader.events) h
    → IsNextPartOfHistory (front ++ take seen x.reader.events) (drop seen x.reader.events) h
stream_next_part {x} {front} {seen} h read judge = record {
  judged = judge.judged;
  few = (let trace = stream_trace judge.known x.reader.sizes x.reader.gone front x.reader.events judge.sizes_are read.trace in
      let few = trace.few in
      let long = length-append (front ++ take seen x.reader.events) (drop seen x.reader.events) in
      let same = ap (λ (xs : List Event). length xs) (stream_all front x.reader.events seen) in
      omega arith);
}

-- judging ended with an event of what was read
pub stream_end : (r : Rules) (reader : FedText) (bytes : List ℕ) (front : List Event) (found : Checked) → HasReadFedText bytes front reader
    → IsStreamEndOf r reader.sizes (front ++ reader.events) found → IsStreamEnd r bytes found
stream_end r reader bytes front found read end = record {
  sizes = trace_sizes_of end.known;
  events = front ++ reader.events;
  trace = stream_trace end.known reader.sizes reader.gone front reader.events end.sizes_are read.trace;
  begins = λ more. (
    (read.text more).0,
    subst (λ s. without_trace_labels (bytes ++ more) ≡ trace_text_so_far s (front ++ reader.events) ++ (read.text more).0)
        end.sizes_are (read.text more).1,
  );
  end = end.end;
}

-- what is found of a text that ends here
pub stream_found : (x : TraceStream) {bytes : List ℕ} {front : List Event} {told : List ℕ} (h : HistoryJudge) (found : Checked)
    → IsStreamJudgeOf x.rules x.reader.sizes (front ++ x.reader.events) h → IsFedTextWhole bytes front told x.reader
    → IsTrueCheckVerdict h.rules (judged_sizes_of h.judge.sizes) (front ++ x.reader.events) found → IsFoundInBytes x.rules bytes found
stream_found x {bytes} {front} h found judge whole says = record {
  sizes = trace_sizes_of whole.sizes;
  events = front ++ x.reader.events;
  trace = whole.trace;
  text_is = whole.text;
  checked = subst (λ t. IsTrueCheckVerdict x.rules (trace_sizes_of t) (front ++ x.reader.events) found)
      (same_Some judge.known whole.sizes (sym judge.sizes_are ∙ whole.known))
      (subst (λ s. IsTrueCheckVerdict x.rules s (front ++ x.reader.events) found) judge.judged_sizes
      (subst (λ r. IsTrueCheckVerdict r (judged_sizes_of h.judge.sizes) (front ++ x.reader.events) found) judge.rules_are says));
}

-- what is found of a text that may end here in the midst of a line
pub stream_found_unfinished : (x : TraceStream) {bytes : List ℕ} {front : List Event} {told : List ℕ} (h : HistoryJudge) (found : Checked)
    → IsStreamJudgeOf x.rules x.reader.sizes (front ++ x.reader.events) h → IsFedTextOf bytes front told x.reader
    → HasNoLineFeed x.reader.unfinished
    → IsTrueCheckVerdict h.rules (judged_sizes_of h.judge.sizes) (front ++ x.reader.events) found → IsFoundInUnfinished x.rules bytes found
stream_found_unfinished x {bytes} {front} h found judge fed clean says = record {
  sizes = trace_sizes_of judge.known;
  events = front ++ x.reader.events;
  trace = stream_trace judge.known x.reader.sizes x.reader.gone front x.reader.events judge.sizes_are fed.trace;
  text_is = feeding_unfinished (trace_sizes_of judge.known) (front ++ x.reader.events) x.reader.unfinished bytes clean
      (subst (λ s. trace_text_so_far s (front ++ x.reader.events) ++ without_trace_labels (x.reader.unfinished ++ [])
      ≡ without_trace_labels (bytes ++ [])) judge.sizes_are (fed.text []));
  checked = subst (λ s. IsTrueCheckVerdict x.rules s (front ++ x.reader.events) found) judge.judged_sizes
      (subst (λ r. IsTrueCheckVerdict r (judged_sizes_of h.judge.sizes) (front ++ x.reader.events) found) judge.rules_are says);
}

-- so is what is found of one that ends with a line
pub stream_found_finished : (r : Rules) (bytes : List ℕ) (found : Checked) → IsFoundInBytes r bytes found → IsFoundInUnfinished r bytes found
stream_found_finished r bytes found is = record {
  sizes = is.sizes;
  events = is.events;
  trace = is.trace;
  text_is = ([], tt, is.text_is ∙ sym (append-nil (trace_text is.sizes is.events)));
  checked = is.checked;
}

-- what is found of the events that were read
pub stream_found_at_hand : (x : TraceStream) {front : List Event} (h : HistoryJudge) (found : Checked) → x.judge ≡ Some h
    → found.race ≡ h.judge.race → IsStreamJudgeOf x.rules x.reader.sizes (front ++ x.reader.events) h → IsTraceSoFar x.reader.sizes x.reader.gone front x.reader.events
    → IsTrueCheckVerdict h.rules (judged_sizes_of h.judge.sizes) (front ++ x.reader.events) found → IsFoundInStream front found x
stream_found_at_hand x {front} h found is race judge trace says = record {
  judge = λ sought. record { by = h; is = is; told = judge; race = race };
  known = judge.known;
  sizes_are = judge.sizes_are;
  trace = trace;
  says = subst (λ s. IsTrueCheckVerdict x.rules s (front ++ x.reader.events) found) judge.judged_sizes
      (subst (λ r. IsTrueCheckVerdict r (judged_sizes_of h.judge.sizes) (front ++ x.reader.events) found) judge.rules_are says);
}

-- and if judging ended with one of them
pub stream_end_at_hand : (x : TraceStream) {front : List Event} {seen : ℕ} (y : TraceStream) (found : Checked) → HasStreamReadOn front seen x
    → y.reader ≡ x.reader → y.rules ≡ x.rules → IsStreamEndOf x.rules x.reader.sizes (front ++ x.reader.events) found
    → IsFoundInStream front found y
stream_end_at_hand x {front} y found read reader rules end = record {
  judge = λ sought. absurd (true≢false (sym sought ∙ history_locksets_early found.verdict end.end.ended));
  known = end.known;
  sizes_are = ap (λ (f : FedText). f.sizes) reader ∙ end.sizes_are;
  trace = subst (λ (f : FedText). IsTraceSoFar f.sizes f.gone front f.events) (sym reader) read.trace;
  says = subst (λ r. IsTrueCheckVerdict r (trace_sizes_of end.known) (front ++ y.reader.events) found) (sym rules)
      (subst (λ (f : FedText). IsTrueCheckVerdict x.rules (trace_sizes_of end.known) (front ++ f.events) found) (sym reader) end.end.says);
}

-- no event was let go of
stream_no_front : (front : List Event) → length front ≡ 0 → front ≡ []
stream_no_front [] none = refl
stream_no_front (e ∷ front) none = absurd (omega (arith, none))

-- so all are at hand
pub stream_all_at_hand : (known : TraceSizes) (sizes : Option TraceSizes) (gone : ℕ) (front es : List Event) → sizes ≡ Some known → gone ≡ 0
    → IsTraceSoFar sizes gone front es → front ≡ []
stream_all_at_hand known None gone front es is none trace = absurd (none-some known is)
stream_all_at_hand known (Some s) gone front es is none trace = stream_no_front front (trace.0 ∙ none)

-- and are the trace's
pub stream_trace_at_hand : (known : TraceSizes) (sizes : Option TraceSizes) (gone : ℕ) (front es : List Event) → sizes ≡ Some known → gone ≡ 0
    → IsTraceSoFar sizes gone front es → IsLawfulTrace (trace_sizes_of known) es
stream_trace_at_hand known sizes gone front es is none trace =
    subst (λ xs. IsLawfulTrace (trace_sizes_of known) (xs ++ es)) (stream_all_at_hand known sizes gone front es is none trace)
    (stream_trace known sizes gone front es is trace)

-- the race that was found is one of the events that were read
pub stream_race : (x : TraceStream) {front : List Event} (found : Checked) → IsFoundInStream front found x
    → IfSome found.race (λ r. Race (front ++ x.reader.events) r.0 r.1)
stream_race x {front} found is = found_is_race x.rules (trace_sizes_of is.known) (front ++ x.reader.events) found is.says
