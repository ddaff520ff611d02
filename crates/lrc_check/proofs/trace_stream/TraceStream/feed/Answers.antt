use Rattle.std.proofs.Common.{◌≡◌, ℕ, ◌++◌, List, length, subst, sym, arith}
use Rattle.std.proofs.lemmas.Grind.{elements}
use Rattle.std.specs.Prelude.{Result, Ok, Err, IfErr}
use Rattle.std.specs.Result.{IsErrAnd}
use Rattle.journal.specs.declared.event.Event.{Event}
use Rattle.lrc_check.specs.declared.checked.Rules.{Rules}
use Rattle.lrc_check.specs.declared.trace_stream.TraceStream.{TraceStream}
use Rattle.lrc_check.specs.Traces.Begun.{AreTraceSizesKept}
use Rattle.lrc_check.specs.Traces.FedText.{FedText, HasReadFedText, IsFedTextOf}
use Rattle.lrc_check.specs.Traces.RefusedLines.{IsFedLineRefused}
use Rattle.lrc_check.specs.TraceStreams.{HasStreamReadOn, IsStreamEnd, IsStreamJudge, IsTraceStreamOf}
use Rattle.lrc_check.proofs.StreamedTraces.{stream_end, stream_end_at_hand, stream_read_on}
use Rattle.lrc_check.proofs.trace_stream.TraceStream.feed.Goals as goal

-- what the reader says that it read
record HasFed (x : TraceStream) (reader : FedText) (piece : List ℕ) : Type 0 where
  sizes : AreTraceSizesKept x.reader.sizes reader.sizes
  events : (more : List Event) × (reader.events ≡ x.reader.events ++ more)
  read : (bytes : List ℕ) (front : List Event) (told : List ℕ) → IsFedTextOf bytes front told x.reader → HasReadFedText (bytes ++ piece) front reader

-- so the judge is behind
behind : (x : TraceStream) (reader : FedText) (piece : List ℕ) (seen : List Event) (bytes : List ℕ) (front : List Event) (told : List ℕ)
    → HasFed x reader piece → seen ≡ x.reader.events → IsTraceStreamOf bytes front told x
    → HasStreamReadOn front (length seen) (record x { reader = reader })
behind x reader piece seen bytes front told fed is stream =
    subst (λ (xs : List Event). HasStreamReadOn front (length xs) (record x { reader = reader })) (sym is)
    (stream_read_on x reader (bytes ++ piece) front fed.events.0 stream.judged fed.sizes fed.events.1 (fed.read bytes front told stream.read))

pub judge_behind-requires : goal.judge_behind-requires
judge_behind-requires c =
    let bytes = c.requires.stream.0 in
    let stream = c.in_ok-make_room.ensures.stream bytes c.requires.stream.1 in
    let e = c.feed-fed.ensures in
    let fed : HasFed c.make_room.new.self c.feed-fed.new.self c.args.piece.now = record { sizes = e.sizes; events = e.events; read = e.read } in
    record {
      read = (
        stream.0,
        behind c.make_room.new.self c.feed-fed.new.self c.args.piece.now c.events-seen.result.now bytes stream.0 stream.1 fed
            c.events-seen.ensures stream.2,
      );
    }

pub returns-in-Some-clause-judged : goal.returns-in-Some-clause-judged
returns-in-Some-clause-judged c = λ bytes was.
    let x = c.make_room.new.self in
    let reader = c.feed-fed.new.self in
    let piece = c.args.piece.now in
    let stream = c.in_ok-make_room.ensures.stream bytes was in
    let e = c.feed-fed.ensures in
    let fed : HasFed x reader piece = record { sizes = e.sizes; events = e.events; read = e.read } in
    let told = rw c.in-Some.is at c.in_ok-found.ensures.judged stream.0
    (behind x reader piece c.events-seen.result.now bytes stream.0 stream.1 fed c.events-seen.ensures stream.2) in
    subst (λ (r : Rules). IsStreamEnd r (bytes ++ piece) c.in-Some.found) c.make_room.ensures.rules
    (stream_end x.rules reader (bytes ++ piece) stream.0 c.in-Some.found (e.read bytes stream.0 stream.1 stream.2.read) told)

pub returns-in-Some-clause-found : goal.returns-in-Some-clause-found
returns-in-Some-clause-found c =
    let x = c.make_room.new.self in
    let reader = c.feed-fed.new.self in
    let piece = c.args.piece.now in
    let bytes = c.requires.stream.0 in
    let stream = c.in_ok-make_room.ensures.stream bytes c.requires.stream.1 in
    let e = c.feed-fed.ensures in
    let fed : HasFed x reader piece = record { sizes = e.sizes; events = e.events; read = e.read } in
    let read = behind x reader piece c.events-seen.result.now bytes stream.0 stream.1 fed c.events-seen.ensures stream.2 in
    let told = rw c.in-Some.is at c.in_ok-found.ensures.judged stream.0 read in (
      stream.0,
      stream_end_at_hand (record x { reader = reader }) c.judge_behind.new.self c.in-Some.found read c.judge_behind.ensures.reader
          c.judge_behind.ensures.rules told,
    )

pub returns-clause-judged : goal.returns-clause-judged
returns-clause-judged c = λ bytes was.
    let x = c.make_room.new.self in
    let reader = c.feed-fed.new.self in
    let piece = c.args.piece.now in
    let y = c.judge_behind.new.self in
    let stream = c.in_ok-make_room.ensures.stream bytes was in
    let e = c.feed-fed.ensures in
    let fed : HasFed x reader piece = record { sizes = e.sizes; events = e.events; read = e.read } in
    let told = rw c.in_default.is at c.in_ok-found.ensures.judged stream.0
    (behind x reader piece c.events-seen.result.now bytes stream.0 stream.1 fed c.events-seen.ensures stream.2) in (
      stream.0,
      stream.1,
      record {
        read = subst (IsFedTextOf (bytes ++ piece) stream.0 stream.1) (sym c.judge_behind.ensures.reader)
            (c.in_ok-fed.ensures.fed bytes stream.0 stream.1 stream.2.read);
        judged = subst (λ (r : Rules). IsStreamJudge r y.reader.sizes (stream.0 ++ y.reader.events) y.judge) (sym c.judge_behind.ensures.rules)
            (subst (λ (f : FedText). IsStreamJudge x.rules f.sizes (stream.0 ++ f.events) y.judge) (sym c.judge_behind.ensures.reader) told);
      },
    )

-- of an error that says so it is said
if_err : {A E : Type 0} (r : Result A E) (P Q : E → Type 0) → ((e : E) → P e → Q e) → IsErrAnd r P → IfErr r Q
if_err (Ok a) P Q f p = tt
if_err (Err e) P Q f p = f e p

pub returns-in_err-fed-clause-refused : goal.returns-in_err-fed-clause-refused
returns-in_err-fed-clause-refused c =
    if_err c.from_residual-in_err-fed.result _ _ (λ fault given found bytes was.
    (let stream = c.in_ok-make_room.ensures.stream bytes was in
    c.in_err-fed.ensures.only (given found) bytes stream.0 stream.1 stream.2.read)) c.from_residual-in_err-fed.ensures.1

pub returns-in_err-fed-clause-line : goal.returns-in_err-fed-clause-line
returns-in_err-fed-clause-line c =
    if_err c.from_residual-in_err-fed.result _ _ (λ fault given found bytes was.
    (let stream = c.in_ok-make_room.ensures.stream bytes was in (
      stream.0,
      subst (IsFedLineRefused (bytes ++ c.args.piece.now) stream.0) (sym c.judge_behind.ensures.reader)
          (c.in_err-fed.ensures.refused (given found) bytes stream.0 stream.1 stream.2.read),
    ))) c.from_residual-in_err-fed.ensures.1

pub returns-in_err-found-clause-line : goal.returns-in_err-found-clause-line
returns-in_err-found-clause-line c = grind (arith, elements)

pub returns-in_err-make_room-clause-line : goal.returns-in_err-make_room-clause-line
returns-in_err-make_room-clause-line c = grind (arith, elements)
