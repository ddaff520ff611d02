use Rattle.std.proofs.Common.{◌≡◌, ℕ, ◌++◌, List, Option, Some, subst, sym, ◌∙◌}
use Rattle.std.specs.Prelude.{None}
use Rattle.std.proofs.lemmas.Option.{none-some}
use Rattle.journal.specs.declared.event.Event.{Event}
use Rattle.lrc_check.specs.declared.history_judge.HistoryJudge.{HistoryJudge}
use Rattle.lrc_check.specs.declared.trace_stream.TraceStream.{TraceStream}
use Rattle.lrc_check.specs.TraceStreams.{IsStreamJudge, IsTraceStreamOf}
use Rattle.lrc_check.proofs.StreamedTraces.{stream_found, stream_found_at_hand}
use Rattle.lrc_check.proofs.trace_stream.TraceStream.finish.Goals as goal

-- what is known of the judge, which is this or none
judge_is : (x : TraceStream) (o : Option HistoryJudge) (bytes : List ℕ) (front : List Event) (told : List ℕ) → IsTraceStreamOf bytes front told x
    → x.judge ≡ o → IsStreamJudge x.rules x.reader.sizes (front ++ x.reader.events) o
judge_is x o bytes front told stream is = subst (IsStreamJudge x.rules x.reader.sizes (front ++ x.reader.events)) is stream.judged

pub returns-in-None-clause-refused : goal.returns-in-None-clause-refused
returns-in-None-clause-refused c = λ _ bytes stream.
    let x = c.args.self.now in
    let whole = c.in_ok-end.ensures.whole bytes stream.0 stream.1 stream.2.read in
    let none = judge_is x None bytes stream.0 stream.1 stream.2 c.in-None.is in
    absurd (none-some whole.sizes (sym none.0 ∙ whole.known))

pub finish-requires : goal.finish-requires
finish-requires c =
    let x = c.args.self.now in
    let stream = c.requires.stream.1 in
    let judge = judge_is x (Some c.in-Some.judge) c.requires.stream.0 stream.0 stream.1 stream.2 c.in-Some.is in
    (stream.0 ++ x.reader.events, judge.judged)

pub returns-in-Some-clause-found : goal.returns-in-Some-clause-found
returns-in-Some-clause-found c = λ bytes stream.
    let x = c.args.self.now in
    let whole = c.in_ok-end.ensures.whole bytes stream.0 stream.1 stream.2.read in
    let judge = judge_is x (Some c.in-Some.judge) bytes stream.0 stream.1 stream.2 c.in-Some.is in
    stream_found x c.in-Some.judge c.finish.result judge whole (c.finish.ensures.says (stream.0 ++ x.reader.events) judge.judged).0

pub returns-in-Some-clause-at_hand : goal.returns-in-Some-clause-at_hand
returns-in-Some-clause-at_hand c =
    let x = c.args.self.now in
    let stream = c.requires.stream.1 in
    let judge = judge_is x (Some c.in-Some.judge) c.requires.stream.0 stream.0 stream.1 stream.2 c.in-Some.is in (
      stream.0,
      stream_found_at_hand x c.in-Some.judge c.finish.result c.in-Some.is c.finish.ensures.race judge stream.2.read.trace
          (c.finish.ensures.says (stream.0 ++ x.reader.events) judge.judged).0,
    )
