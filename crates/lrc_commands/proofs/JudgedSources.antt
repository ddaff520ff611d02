-- A trace that was read and judged.
use Rattle.std.proofs.Common.{◌≡◌, ◌≢◌, ◌∙◌, ℕ, inl, inr, suc, Bool, true, false, List, [], ◌++◌, ◌≤◌, Option, Some, None, Result, Ok, Err, length, take, drop, refl, sym, ap, subst, append_assoc, append-nil, take-append-drop, arith}
use Rattle.std.proofs.lemmas.List.{take_all}
use Rattle.std.specs.Prelude.{IfErr, IfOk, IfSome, IsTrue, is_some}
use Rattle.std.specs.Io.KnownBytes.{Consumes, IsAtEnd}
use Rattle.journal.specs.declared.event.Event.{Event}
use Rattle.journal.specs.Races.{Race}
use Rattle.journal.specs.Sizes.{Sizes}
use Rattle.judge.specs.declared.models.MemoryModel.{MemoryModel}
use Rattle.lrc_check.specs.declared.checked.Checked.{Checked}
use Rattle.lrc_check.specs.declared.checked.Lie.{Lie}
use Rattle.lrc_check.specs.declared.checked.Rules.{Rules}
use Rattle.lrc_check.specs.declared.checked.TraceVerdict.{TraceVerdict}
use Rattle.lrc_check.specs.declared.checked.TraceVerdict.TheVariants as verdict
use Rattle.lrc_check.specs.Faithful.{IsFaithfulAndCounted}
use Rattle.lrc_check.specs.HistoryJudge.{HasEndedEarly}
use Rattle.lrc_check.specs.TraceStreams.{IsStreamEnd}
use Rattle.lrc_check.specs.ToldTraces.{IsToldTraceUpToLie}
use Rattle.lrc_check.specs.CheckVerdicts.{IsCheckVerdictLie, IsCheckVerdictOf, IsCheckVerdictWhole, IsTrueCheckVerdict, check_verdict_lie_place}
use Rattle.lrc_check.specs.declared.traces.fault.TraceFault.{TraceFault}
use Rattle.lrc_check.specs.declared.traces.fault.TraceFault.TheVariants.{NoMemory}
use Rattle.lrc_check.proofs.FoundRaces.{found_is_race, found_race_of_front}
use Rattle.lrc_check.specs.Traces.FedText.{FedTextBeginsTrace, IsFedTextOf, FedText}
use Rattle.lrc_check.specs.Traces.Labels.{without_trace_labels}
use Rattle.lrc_check.specs.Traces.LawfulTraces.{IsLawfulTrace}
use Rattle.lrc_check.specs.Traces.TraceText.{trace_text}
use Rattle.lrc_commands.specs.declared.checking.Judgement.{Judgement}
use Rattle.lrc_commands.specs.declared.fault.CommandFault.{CommandFault}
use Rattle.lrc_commands.specs.ExitStatus.{IsCommandExitStatusOfInput}
use Rattle.lrc_commands.specs.TraceCommand.{BeginsWithTraceCommandText, HasNoTraceCommandFront, HasTraceCommandText, IsTraceCommandEnding, IsTraceCommandFound, IsTraceCommandOnRacy, IsTraceCommandText, IsTraceCommandJudgedAs, IsTraceCommandNoText, IsTraceCommandOnNone, IsTraceCommandToldAs, IsTraceCommandReadSoFar, trace_command_judgement}

-- nothing was read yet
pub judged_source_fed_none : (source : Option (List ℕ)) (x : FedText) → IsFedTextOf [] [] [] x → IsTraceCommandReadSoFar source source (Ok x)
judged_source_fed_none None x h = ([], tt, h)
judged_source_fed_none (Some xs) x h = ([], refl, h)

pub judged_source_consumed_no_more : (source left after : Option (List ℕ)) (fed piece : List ℕ) (n : ℕ) → n ≡ 0 → Consumes source left fed
    → Consumes left after (take n piece) → Consumes source after fed
judged_source_consumed_no_more None left after fed piece n none had more = tt
judged_source_consumed_no_more (Some xs) None after fed piece n none had more = absurd had
judged_source_consumed_no_more (Some xs) (Some ys) None fed piece n none had more = absurd more
judged_source_consumed_no_more (Some xs) (Some ys) (Some zs) fed piece n none had more =
    had ∙ ap (λ (x : List ℕ). fed ++ x) (more ∙ ap (λ (m : ℕ). take m piece ++ zs) none)

-- nothing more was read
pub judged_source_fed_no_more : (source left after : Option (List ℕ)) (piece : List ℕ) (n : ℕ)
    (r : Result FedText (ℕ × TraceFault)) → n ≡ 0 → IsTraceCommandReadSoFar source left r → Consumes left after (take n piece)
    → IsTraceCommandReadSoFar source after r
judged_source_fed_no_more source left after piece n (Err e) none had more = had
judged_source_fed_no_more source left after piece n (Ok x) none had more =
    (had.0, judged_source_consumed_no_more source left after had.0 piece n none had.1 more, had.2)

pub judged_source_consumed_on : (source left after : Option (List ℕ)) (fed piece : List ℕ) → Consumes source left fed
    → Consumes left after piece → Consumes source after (fed ++ piece)
judged_source_consumed_on None left after fed piece had more = tt
judged_source_consumed_on (Some xs) None after fed piece had more = absurd had
judged_source_consumed_on (Some xs) (Some ys) None fed piece had more = absurd more
judged_source_consumed_on (Some xs) (Some ys) (Some zs) fed piece had more =
    had ∙ ap (λ (x : List ℕ). fed ++ x) more ∙ sym (append_assoc fed piece zs)

-- no trace begins with what the source had
pub judged_source_no_front : (source left : Option (List ℕ)) (fed : List ℕ) → Consumes source left fed → ¬ FedTextBeginsTrace fed
    → IfSome source HasNoTraceCommandFront
judged_source_no_front None left fed had none = tt
judged_source_no_front (Some xs) None fed had none = absurd had
judged_source_no_front (Some xs) (Some zs) fed had none = (fed, zs, had, none)

-- so it is none
pub judged_source_no_trace : (unfinished : Bool) (source : Option (List ℕ)) → IfSome source HasNoTraceCommandFront
    → IsTraceCommandOnNone unfinished source
judged_source_no_trace unfinished None none = tt
judged_source_no_trace true (Some xs) none = inl none
judged_source_no_trace false (Some xs) none = λ s es h text. none.3 (s, es, h, none.1, sym text ∙ ap without_trace_labels none.2)

-- what was read and the next piece
pub judged_source_fed_on : (source left after : Option (List ℕ)) (x : FedText) (piece : List ℕ) (y : FedText)
    → ((bytes : List ℕ) (front : List Event) (told : List ℕ) → IsFedTextOf bytes front told x → IsFedTextOf (bytes ++ piece) front told y)
    → IsTraceCommandReadSoFar source left (Ok x) → Consumes left after piece → IsTraceCommandReadSoFar source after (Ok y)
judged_source_fed_on source left after x piece y fed had more =
    (had.0 ++ piece, judged_source_consumed_on source left after had.0 piece had.1 more, fed had.0 [] [] had.2)

-- the next piece is refused
pub judged_source_fed_refused : (source left after : Option (List ℕ)) (x : FedText) (piece : List ℕ) (e : ℕ × TraceFault)
    → (e.1 ≢ NoMemory → (bytes : List ℕ) (front : List Event) (told : List ℕ) → IsFedTextOf bytes front told x
    → ¬ FedTextBeginsTrace (bytes ++ piece))
    → IsTraceCommandReadSoFar source left (Ok x) → Consumes left after piece → IsTraceCommandReadSoFar source after (Err e)
judged_source_fed_refused source left after x piece e none had more =
    λ ne. judged_source_no_front source after (had.0 ++ piece) (judged_source_consumed_on source left after had.0 piece had.1 more) (none ne had.0 [] [] had.2)

-- all was read
pub judged_source_consumed_fully : (source left : Option (List ℕ)) (fed : List ℕ) → Consumes source left fed → IsAtEnd left
    → IfSome source (λ xs. xs ≡ fed)
judged_source_consumed_fully None left fed had end = tt
judged_source_consumed_fully (Some xs) None fed had end = absurd had
judged_source_consumed_fully (Some xs) (Some ys) fed had end = had ∙ ap (λ (x : List ℕ). fed ++ x) end ∙ append-nil fed

pub judged_source_full_text : (unfinished : Bool) (source : Option (List ℕ)) (fed : List ℕ) (s : Sizes) (es : List Event)
    → IfSome source (λ xs. xs ≡ fed) → IsTraceCommandText unfinished fed s es → HasTraceCommandText unfinished source s es
judged_source_full_text unfinished None fed s es same text = tt
judged_source_full_text unfinished (Some xs) fed s es same text = subst (λ (x : List ℕ). IsTraceCommandText unfinished x s es) (sym same) text

pub judged_source_full_refused : (unfinished : Bool) (source : Option (List ℕ)) (fed : List ℕ) → IfSome source (λ xs. xs ≡ fed)
    → IsTraceCommandNoText unfinished fed → IsTraceCommandOnNone unfinished source
judged_source_full_refused unfinished None fed same none = tt
judged_source_full_refused unfinished (Some xs) fed same none = subst (IsTraceCommandNoText unfinished) (sym same) none

-- no history that begins with a lie is faithful
no_judged_source_faithful_on : (m : MemoryModel) (lax : Bool) (s : Sizes) (j : List Event) (n : ℕ) (x : Lie)
    → IsCheckVerdictLie m lax s (take n j) x → (more : List Event) → ¬ IsFaithfulAndCounted m lax s (j ++ more)
no_judged_source_faithful_on m lax s j n x lie more faithful =
    let last = lie.last in
    let le : length (take n j) ≤ suc (check_verdict_lie_place x) = omega arith in
    let whole = take_all (suc (check_verdict_lie_place x)) (take n j) le in
    let split = ap (λ (xs : List Event). xs ++ (drop n j ++ more)) whole ∙ sym (append_assoc (take n j) (drop n j) more)
    ∙ ap (λ (xs : List Event). xs ++ more) (take-append-drop n j) in
    lie.first.never (drop n j ++ more) (subst (IsFaithfulAndCounted m lax s) (sym split) faithful)

-- the whole text is a beginning
judged_source_begins : (unfinished : Bool) (source : Option (List ℕ)) (s : Sizes) (es : List Event)
    → HasTraceCommandText unfinished source s es → BeginsWithTraceCommandText source s es
judged_source_begins true None s es text = tt
judged_source_begins true (Some xs) s es text = (text.0, text.2)
judged_source_begins false None s es text = tt
judged_source_begins false (Some xs) s es text = ([], text ∙ sym (append-nil (trace_text s es)))

-- what was found of events with whose text the source begins is said of the source, if judging ended early
judged_source_early : (r : Rules) (unfinished : Bool) (source : Option (List ℕ)) (s : Sizes) (es : List Event) (n : ℕ)
    (race : Option (ℕ × ℕ)) (v : TraceVerdict) → IsLawfulTrace s es → BeginsWithTraceCommandText source s es
    → IsCheckVerdictOf r.model r.lax s (take n es) race v → HasEndedEarly v
    → IsTraceCommandJudgedAs r.model r.lax unfinished source (trace_command_judgement v)
judged_source_early r unfinished source s es n race (verdict.Faithful traffic unjudged) trace begins is ended = absurd ended
judged_source_early r unfinished source s es n race (verdict.Lie x) trace begins is ended = record {
  sizes = s;
  events = es;
  trace = trace;
  begins = begins;
  lies = no_judged_source_faithful_on r.model r.lax s es n x is.0;
}
judged_source_early r unfinished source s es n race verdict.Racy trace begins is ended = record {
  sizes = s;
  events = es;
  trace = trace;
  begins = begins;
  first = is.first;
  second = is.second;
  race = found_race_of_front es n is.first is.second is.nearest.race;
}

-- what was found of the trace that the source had is said of the source
pub judged_source_as : (r : Rules) (unfinished : Bool) (source : Option (List ℕ)) (s : Sizes) (es : List Event) (n : ℕ)
    (race : Option (ℕ × ℕ)) (v : TraceVerdict) → IsLawfulTrace s es → HasTraceCommandText unfinished source s es
    → IsCheckVerdictOf r.model r.lax s (take n es) race v → IsCheckVerdictWhole es n v
    → IsTraceCommandJudgedAs r.model r.lax unfinished source (trace_command_judgement v)
judged_source_as r unfinished source s es n race (verdict.Faithful traffic unjudged) trace text is whole = record {
  sizes = s;
  events = es;
  trace = trace;
  text_is = text;
  faithful =
      (let le : length es ≤ n = omega arith in
      subst (IsFaithfulAndCounted r.model r.lax s) (take_all n es le) is.0);
}
judged_source_as r unfinished source s es n race (verdict.Lie x) trace text is whole =
    judged_source_early r unfinished source s es n race (verdict.Lie x) trace (judged_source_begins unfinished source s es text) is tt
judged_source_as r unfinished source s es n race verdict.Racy trace text is whole =
    judged_source_early r unfinished source s es n race verdict.Racy trace (judged_source_begins unfinished source s es text) is tt

-- what the source had begins with what was read of it
judged_source_stream_begins : (source left : Option (List ℕ)) (fed : List ℕ) (s : Sizes) (es : List Event) → Consumes source left fed
    → ((more : List ℕ) → (rest : List ℕ) × (without_trace_labels (fed ++ more) ≡ trace_text s es ++ rest)) → BeginsWithTraceCommandText source s es
judged_source_stream_begins None left fed s es had begins = tt
judged_source_stream_begins (Some xs) None fed s es had begins = absurd had
judged_source_stream_begins (Some xs) (Some ys) fed s es had begins =
    ((begins ys).0, ap without_trace_labels had ∙ (begins ys).1)

-- judging ended as it was read
pub judged_source_stream_ended : (r : Rules) (unfinished : Bool) (source left : Option (List ℕ)) (fed : List ℕ) (found : Checked) → Consumes source left fed
    → IsStreamEnd r fed found → IsTraceCommandJudgedAs r.model r.lax unfinished source (trace_command_judgement found.verdict)
judged_source_stream_ended r unfinished source left fed found had end =
    judged_source_early r unfinished source end.sizes end.events found.count found.race found.verdict end.trace
    (judged_source_stream_begins source left fed end.sizes end.events had end.begins) end.end.says.verdict end.end.ended

-- all was read, and judged
judged_source_stream_found : (r : Rules) (unfinished : Bool) (source : Option (List ℕ)) (fed : List ℕ) (found : Checked)
    → IfSome source (λ xs. xs ≡ fed) → IsTraceCommandFound unfinished r fed found
    → IsTraceCommandJudgedAs r.model r.lax unfinished source (trace_command_judgement found.verdict)
judged_source_stream_found r true source fed found same is =
    judged_source_as r true source is.sizes is.events found.count found.race found.verdict is.trace
    (judged_source_full_text true source fed is.sizes is.events same is.text_is) is.checked.verdict is.checked.whole
judged_source_stream_found r false source fed found same is =
    judged_source_as r false source is.sizes is.events found.count found.race found.verdict is.trace
    (judged_source_full_text false source fed is.sizes is.events same is.text_is) is.checked.verdict is.checked.whole

pub judged_source_stream_whole : (r : Rules) (unfinished : Bool) (source left : Option (List ℕ)) (fed : List ℕ) (found : Checked)
    → Consumes source left fed → IsAtEnd left → IsTraceCommandFound unfinished r fed found
    → IsTraceCommandJudgedAs r.model r.lax unfinished source (trace_command_judgement found.verdict)
judged_source_stream_whole r unfinished source left fed found had end is =
    judged_source_stream_found r unfinished source fed found (judged_source_consumed_fully source left fed had end) is

-- a race that was found is one of a trace with whose text the source begins
judged_source_racy : (r : Rules) (source : Option (List ℕ)) (s : Sizes) (es : List Event) (found : Checked) → IsLawfulTrace s es
    → BeginsWithTraceCommandText source s es → IsTrueCheckVerdict r s es found → IfSome found.race (λ _. IsTraceCommandOnRacy source)
judged_source_racy r source s es found trace begins says = go found.race (found_is_race r s es found says)
  where
    go : (o : Option (ℕ × ℕ)) → IfSome o (λ x. Race es x.0 x.1) → IfSome o (λ _. IsTraceCommandOnRacy source)
    go None is = tt
    go (Some x) is = record { sizes = s; events = es; trace = trace; begins = begins; first = x.0; second = x.1; race = is }

-- if judging ended as it was read
pub judged_source_ended_racy : (r : Rules) (source left : Option (List ℕ)) (fed : List ℕ) (found : Checked) → Consumes source left fed
    → IsStreamEnd r fed found → IfSome found.race (λ _. IsTraceCommandOnRacy source)
judged_source_ended_racy r source left fed found had end =
    judged_source_racy r source end.sizes end.events found end.trace
    (judged_source_stream_begins source left fed end.sizes end.events had end.begins) end.end.says

-- and if all was read
judged_source_found_racy : (r : Rules) (unfinished : Bool) (source : Option (List ℕ)) (fed : List ℕ) (found : Checked)
    → IfSome source (λ xs. xs ≡ fed) → IsTraceCommandFound unfinished r fed found → IfSome found.race (λ _. IsTraceCommandOnRacy source)
judged_source_found_racy r true source fed found same is =
    judged_source_racy r source is.sizes is.events found is.trace
    (judged_source_begins true source is.sizes is.events (judged_source_full_text true source fed is.sizes is.events same is.text_is)) is.checked
judged_source_found_racy r false source fed found same is =
    judged_source_racy r source is.sizes is.events found is.trace
    (judged_source_begins false source is.sizes is.events (judged_source_full_text false source fed is.sizes is.events same is.text_is)) is.checked

pub judged_source_whole_racy : (r : Rules) (unfinished : Bool) (source left : Option (List ℕ)) (fed : List ℕ) (found : Checked)
    → Consumes source left fed → IsAtEnd left → IsTraceCommandFound unfinished r fed found → IfSome found.race (λ _. IsTraceCommandOnRacy source)
judged_source_whole_racy r unfinished source left fed found had end is =
    judged_source_found_racy r unfinished source fed found (judged_source_consumed_fully source left fed had end) is

-- how it ended is said of the source
judged_source_ending : (m : MemoryModel) (lax unfinished : Bool) (source : Option (List ℕ)) (found : Checked) (x : Judgement)
    → IsTraceCommandJudgedAs m lax unfinished source (trace_command_judgement found.verdict) → IfSome found.race (λ _. IsTraceCommandOnRacy source)
    → IsTraceCommandEnding found x → IsTraceCommandJudgedAs m lax unfinished source x
judged_source_ending m lax unfinished source found x judged racy ends = elim ends [
  | inl same ↦ subst (IsTraceCommandJudgedAs m lax unfinished source) (sym same) judged
  | inr other ↦ elim other [
    | inl both ↦ subst (IsTraceCommandJudgedAs m lax unfinished source) (sym both.0) (go found.race both.1 racy)
    | inr hung ↦ subst (IsTraceCommandJudgedAs m lax unfinished source) (sym hung.0)
        (subst (IsTraceCommandJudgedAs m lax unfinished source) hung.1 judged)
  ]
]
  where
    go : (o : Option (ℕ × ℕ)) → IsTrue (is_some o) → IfSome o (λ _. IsTraceCommandOnRacy source) → IsTraceCommandOnRacy source
    go None some is = absurd cc
    go (Some r) some is = is

pub judged_source_answered_ending : {E : Type 0} (m : MemoryModel) (lax unfinished : Bool) (source : Option (List ℕ)) (found : Checked)
    (x : Result Judgement E) → IfOk x (IsTraceCommandEnding found)
    → IsTraceCommandJudgedAs m lax unfinished source (trace_command_judgement found.verdict) → IfSome found.race (λ _. IsTraceCommandOnRacy source)
    → IfOk x (IsTraceCommandJudgedAs m lax unfinished source)
judged_source_answered_ending m lax unfinished source found (Ok b) ends judged racy = judged_source_ending m lax unfinished source found b judged racy ends
judged_source_answered_ending m lax unfinished source found (Err e) ends judged racy = tt

-- and so by the rules that were asked for
pub judged_source_by : (r : Rules) (m : MemoryModel) (lax unfinished : Bool) (source : Option (List ℕ)) (a b : Judgement) → r.model ≡ m
    → r.lax ≡ lax → b ≡ a → IsTraceCommandJudgedAs r.model r.lax unfinished source a → IsTraceCommandJudgedAs m lax unfinished source b
judged_source_by r m lax unfinished source a b model same is judged =
    subst (IsTraceCommandJudgedAs m lax unfinished source) (sym is)
    (subst (λ x. IsTraceCommandJudgedAs x lax unfinished source a) model (subst (λ y. IsTraceCommandJudgedAs r.model y unfinished source a) same judged))

-- also of the judgement that a call answers
pub judged_source_answered_by : {E : Type 0} (r : Rules) (m : MemoryModel) (lax unfinished : Bool) (source : Option (List ℕ))
    (x : Result Judgement E) → r.model ≡ m → r.lax ≡ lax → IfOk x (IsTraceCommandJudgedAs r.model r.lax unfinished source)
    → IfOk x (IsTraceCommandJudgedAs m lax unfinished source)
judged_source_answered_by r m lax unfinished source (Ok a) model same judged =
    judged_source_by r m lax unfinished source a a model same refl judged
judged_source_answered_by r m lax unfinished source (Err e) model same judged = tt

-- writing what was found refuses no trace
pub judged_source_never_refused : {T : Type 0} (unfinished : Bool) (source : Option (List ℕ)) (x : Result T CommandFault)
    → IfErr x (λ fault. IsCommandExitStatusOfInput fault → ⊥)
    → IfErr x (λ fault. IsCommandExitStatusOfInput fault → IsTraceCommandOnNone unfinished source)
judged_source_never_refused unfinished source (Ok a) never = tt
judged_source_never_refused unfinished source (Err fault) never = λ its. absurd (never its)

-- what was told of the trace that the source had is said of the source
pub judged_source_told_as : (lies : Bool) (m : MemoryModel) (lax unfinished : Bool) (source : Option (List ℕ)) {s : Sizes} {es : List Event} (told : List Event)
    → IsLawfulTrace s es → HasTraceCommandText unfinished source s es → IsToldTraceUpToLie lies m lax s es told
    → IsTraceCommandToldAs lies m lax unfinished source
judged_source_told_as true m lax unfinished source {s} {es} told trace text is = record {
  sizes = s;
  events = es;
  trace = trace;
  text_is = text;
  unfaithful = λ faithful. is.1.never (drop (suc is.0) es)
      (subst (IsFaithfulAndCounted m lax s) (sym (take-append-drop (suc is.0) es)) faithful);
}
judged_source_told_as false m lax unfinished source {s} {es} told trace text is = record {
  sizes = s;
  events = es;
  trace = trace;
  text_is = text;
  faithful = is.0;
}

-- and so by the model that was asked for
pub judged_source_told_by : (a b : Bool) (m asked : MemoryModel) (lax unfinished : Bool) (source : Option (List ℕ)) → b ≡ a → m ≡ asked
    → IsTraceCommandToldAs a m lax unfinished source → IsTraceCommandToldAs b asked lax unfinished source
judged_source_told_by a b m asked lax unfinished source is model told =
    subst (λ lies. IsTraceCommandToldAs lies asked lax unfinished source) (sym is) (subst (λ x. IsTraceCommandToldAs a x lax unfinished source) model told)
