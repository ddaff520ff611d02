use Rattle.std.proofs.Common.{◌≡◌, ℕ, ◌++◌, List, Option, Some, None, subst}
use Rattle.std.specs.Prelude.{Result, Ok, Err, IfErr, IfOk}
use Rattle.journal.specs.declared.event.Event.{Event}
use Rattle.lrc_check.specs.declared.history_judge.HistoryJudge.{HistoryJudge}
use Rattle.lrc_check.specs.declared.trace_stream.TraceStream.{TraceStream}
use Rattle.lrc_check.specs.TraceStreams.{IsStreamJudge, IsTraceStream, IsTraceStreamOf}
use Rattle.lrc_check.specs.FoundInBytes.{IsFoundInBytes, IsFoundInUnfinished}
use Rattle.lrc_check.specs.declared.checked.Checked.{Checked}
use Rattle.lrc_check.specs.declared.checked.Rules.{Rules}
use Rattle.lrc_script.specs.ScriptFaults.{HasNoLineFeed}
use Rattle.lrc_check.proofs.StreamedTraces.{stream_found_at_hand, stream_found_finished, stream_found_unfinished}
use Rattle.lrc_check.proofs.traces.Unfinished.{unfinished_unread}
use Rattle.lrc_check.proofs.trace_stream.TraceStream.finish_unfinished.Goals as goal

-- what is known of the judge, which is this or none
judge_is : (x : TraceStream) (o : Option HistoryJudge) (bytes : List ℕ) (front : List Event) (told : List ℕ) → IsTraceStreamOf bytes front told x
    → x.judge ≡ o → IsStreamJudge x.rules x.reader.sizes (front ++ x.reader.events) o
judge_is x o bytes front told stream is = subst (IsStreamJudge x.rules x.reader.sizes (front ++ x.reader.events)) is stream.judged

-- a text that ends with a line
finished : {E : Type 0} (r : Rules) (x : TraceStream) (o : Result Checked E)
    → IfOk o (λ found. (bytes : List ℕ) → IsTraceStream bytes x → IsFoundInBytes r bytes found)
    → IfOk o (λ found. (bytes : List ℕ) → IsTraceStream bytes x → IsFoundInUnfinished r bytes found)
finished r x (Ok found) is = λ bytes stream. stream_found_finished r bytes found (is bytes stream)
finished r x (Err e) is = tt

pub returns-in-None-clause-found : goal.returns-in-None-clause-found
returns-in-None-clause-found c = finished c.args.self.now.rules c.args.self.now c.finish.result c.finish.ensures.found

pub finish-requires-in-Some : goal.finish-requires-in-Some
finish-requires-in-Some c =
    let x = c.args.self.now in
    let stream = c.requires.stream.1 in
    let judge = judge_is x (Some c.in-Some.judge) c.requires.stream.0 stream.0 stream.1 stream.2 c.in-Some.is in
    (stream.0 ++ x.reader.events, judge.judged)

pub returns-in-Some-clause-found : goal.returns-in-Some-clause-found
returns-in-Some-clause-found c = λ bytes stream.
    let x = c.args.self.now in
    let judge = judge_is x (Some c.in-Some.judge) bytes stream.0 stream.1 stream.2 c.in-Some.is in
    stream_found_unfinished x c.in-Some.judge c.finish-in-Some.result judge stream.2.read
    (subst HasNoLineFeed c.unfinished-line.ensures.bytes c.unfinished-line.ensures.line)
    (c.finish-in-Some.ensures.says (stream.0 ++ x.reader.events) judge.judged).0

pub returns-in-Some-clause-at_hand : goal.returns-in-Some-clause-at_hand
returns-in-Some-clause-at_hand c =
    let x = c.args.self.now in
    let stream = c.requires.stream.1 in
    let judge = judge_is x (Some c.in-Some.judge) c.requires.stream.0 stream.0 stream.1 stream.2 c.in-Some.is in (
      stream.0,
      stream_found_at_hand x c.in-Some.judge c.finish-in-Some.result c.in-Some.is c.finish-in-Some.ensures.race judge stream.2.read.trace
          (c.finish-in-Some.ensures.says (stream.0 ++ x.reader.events) judge.judged).0,
    )

-- of any error
if_err_any : {A E : Type 0} (r : Result A E) (Q : Type 0) → Q → IfErr r (λ _. Q)
if_err_any (Ok a) Q q = tt
if_err_any (Err e) Q q = q

pub returns-in-None-clause-never : goal.returns-in-None-clause-never
returns-in-None-clause-never c = if_err_any c.finish.result _ (λ bytes stream.
    let x = c.args.self.now in
    let judge = judge_is x None bytes stream.0 stream.1 stream.2 c.in-None.is in
    unfinished_unread x.reader bytes stream.0 stream.1 judge.0 (subst HasNoLineFeed c.unfinished-line.ensures.bytes c.unfinished-line.ensures.line) stream.2.read)
