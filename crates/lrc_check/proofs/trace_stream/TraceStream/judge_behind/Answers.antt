use Rattle.std.proofs.Common.{◌≡◌, ℕ, [], ◌++◌, ◌-◌, ◌≤◌, List, Option, Some, drop, length, take, subst, sym, ap, ◌∙◌, arith}
use Rattle.std.proofs.lemmas.List.{length-drop, take_all}
use Rattle.std.proofs.lemmas.Grind.{elements}
use Rattle.std.specs.Prelude.{None, Result, Ok, Err, IfOk, MatchOption}
use Rattle.journal.specs.declared.event.Event.{Event}
use Rattle.judge.specs.JudgedSizes.{judged_sizes_of}
use Rattle.lrc_check.specs.declared.checked.Checked.{Checked}
use Rattle.lrc_check.specs.declared.checked.Rules.{Rules}
use Rattle.lrc_check.specs.declared.history_judge.HistoryJudge.{HistoryJudge}
use Rattle.lrc_check.specs.declared.trace_stream.TraceStream.{TraceStream}
use Rattle.lrc_check.specs.HistoryJudge.{IsHistoryEndWithin, IsHistoryJudgeOf, IsNextPartOfHistory}
use Rattle.lrc_check.specs.Traces.FedText.{FedText}
use Rattle.lrc_check.specs.Traces.Sizes.{trace_sizes_of}
use Rattle.lrc_check.specs.TraceStreams.{HasStreamReadOn, IsStreamEndOf, IsStreamJudgeOf}
use Rattle.lrc_check.proofs.StreamedTraces.{stream_all, stream_next_part}
use Rattle.lrc_check.proofs.trace_stream.TraceStream.judge_behind.Goals as goal

-- the judge that there is has judged what was seen
judge_of : (x : TraceStream) (h : HistoryJudge) (front : List Event) (seen : ℕ) → HasStreamReadOn front seen x → x.judge ≡ Some h
    → IsStreamJudgeOf x.rules x.reader.sizes (front ++ take seen x.reader.events) h
judge_of x h front seen read is =
    subst (λ (o : Option HistoryJudge). MatchOption o (front ++ take seen x.reader.events ≡ [])
    (IsStreamJudgeOf x.rules x.reader.sizes (front ++ take seen x.reader.events))) is read.judged

-- what the judge tells of all events
told : (x : TraceStream) (h k : HistoryJudge) (front : List Event) (seen : ℕ) (events : List Event) (o : Option Checked)
    → HasStreamReadOn front seen x → x.judge ≡ Some h → events ≡ drop seen x.reader.events
    → k.rules ≡ h.rules → k.judge.sizes ≡ h.judge.sizes
    → ((j : List Event) → IsNextPartOfHistory j events h → MatchOption o (IsHistoryJudgeOf (j ++ events) k)
    (IsHistoryEndWithin h.rules (judged_sizes_of h.judge.sizes) (j ++ events)))
    → MatchOption o (IsStreamJudgeOf x.rules x.reader.sizes (front ++ x.reader.events) k)
    (IsStreamEndOf x.rules x.reader.sizes (front ++ x.reader.events))
told x h k front seen events o read is are rules sizes tells = go o (tells (front ++ take seen x.reader.events)
    (subst (λ es. IsNextPartOfHistory (front ++ take seen x.reader.events) es h) (sym are) (stream_next_part h read judge)))
  where
    judge : IsStreamJudgeOf x.rules x.reader.sizes (front ++ take seen x.reader.events) h
    judge = judge_of x h front seen read is

    whole : (front ++ take seen x.reader.events) ++ events ≡ front ++ x.reader.events
    whole = ap (λ (es : List Event). (front ++ take seen x.reader.events) ++ es) are ∙ stream_all front x.reader.events seen

    go : (p : Option Checked) → MatchOption p (IsHistoryJudgeOf ((front ++ take seen x.reader.events) ++ events) k)
        (IsHistoryEndWithin h.rules (judged_sizes_of h.judge.sizes) ((front ++ take seen x.reader.events) ++ events))
        → MatchOption p (IsStreamJudgeOf x.rules x.reader.sizes (front ++ x.reader.events) k)
        (IsStreamEndOf x.rules x.reader.sizes (front ++ x.reader.events))
    go None tells = record {
      known = judge.known;
      sizes_are = judge.sizes_are;
      judged_sizes = ap judged_sizes_of sizes ∙ judge.judged_sizes;
      rules_are = rules ∙ judge.rules_are;
      judged = subst (λ j. IsHistoryJudgeOf j k) whole tells;
    }
    go (Some found) tells = record {
      known = judge.known;
      sizes_are = judge.sizes_are;
      end = subst (λ j. IsHistoryEndWithin x.rules (trace_sizes_of judge.known) j found) whole
          (subst (λ r. IsHistoryEndWithin r (trace_sizes_of judge.known) ((front ++ take seen x.reader.events) ++ events) found) judge.rules_are
          (subst (λ s. IsHistoryEndWithin h.rules s ((front ++ take seen x.reader.events) ++ events) found) judge.judged_sizes tells));
    }

-- of an answer that says so of each history it is said of these
each : {E : Type 0} (r : Result (Option Checked) E) (P Q : Option Checked → Type 0) → ((o : Option Checked) → P o → Q o) → IfOk r P → IfOk r Q
each (Ok o) P Q f p = f o p
each (Err e) P Q f p = tt

-- the events from this one on
slice_is : (xs ys : List Event) (seen : ℕ) → xs ≡ ys → take (length xs - seen) (drop seen xs) ≡ drop seen ys
slice_is xs ys seen is =
    let long = length-drop seen xs in
    let le : length (drop seen xs) ≤ length xs - seen = omega arith in
    take_all (length xs - seen) (drop seen xs) le ∙ ap (drop seen) is

-- the stream with the judge is that before it was made, but for that
as_before : (x y : TraceStream) (k : HistoryJudge) (front : List Event) (o : Option Checked) → y.reader ≡ x.reader → y.rules ≡ x.rules
    → MatchOption o (IsStreamJudgeOf y.rules y.reader.sizes (front ++ y.reader.events) k)
    (IsStreamEndOf y.rules y.reader.sizes (front ++ y.reader.events))
    → MatchOption o (IsStreamJudgeOf x.rules x.reader.sizes (front ++ x.reader.events) k)
    (IsStreamEndOf x.rules x.reader.sizes (front ++ x.reader.events))
as_before x y k front o reader rules tells =
    subst (λ (f : FedText). MatchOption o (IsStreamJudgeOf x.rules f.sizes (front ++ f.events) k) (IsStreamEndOf x.rules f.sizes (front ++ f.events))) reader
    (subst (λ (r : Rules). MatchOption o (IsStreamJudgeOf r y.reader.sizes (front ++ y.reader.events) k)
    (IsStreamEndOf r y.reader.sizes (front ++ y.reader.events))) rules tells)

pub returns-in-Some-clause-judged : goal.returns-in-Some-clause-judged
returns-in-Some-clause-judged c =
    let x = c.args.self.now in
    let y = c.begin_judge.new.self in
    let h = c.in-Some.judge in
    let k = c.read_all.new.self in
    let begun = c.in_ok-begin_judge.ensures.begun in
    each c.read_all.result _ _ (λ o tells front read.
    as_before x y k front o c.begin_judge.ensures.reader c.begin_judge.ensures.rules
    (told y h k front c.args.seen _ o (begun front c.args.seen read) c.in-Some.is
    (slice_is c.events.result.now y.reader.events c.args.seen c.events.ensures) c.read_all.ensures.rules c.read_all.ensures.sizes tells)) c.read_all.ensures.judged

pub read_all-requires : goal.read_all-requires
read_all-requires c = grind (arith, elements)
