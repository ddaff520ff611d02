use Rattle.std.proofs.Common.{◌≡◌, ℕ, ◌++◌, List, subst, sym, ap, ◌∙◌, append-nil}
use Rattle.journal.specs.declared.event.Event.{Event}
use Rattle.lrc_check.specs.declared.trace_stream.TraceStream.{TraceStream}
use Rattle.lrc_check.specs.TraceStreams.{IsStreamJudge, IsTraceStream}
use Rattle.lrc_check.proofs.trace_stream.TraceStream.make_room.Goals as goal

-- what is kept besides says nothing of what was read
kept_besides : (x y : TraceStream) (bytes : List ℕ) → y ≡ record x { kept = y.kept } → IsTraceStream bytes x → IsTraceStream bytes y
kept_besides x y bytes is stream =
    subst (IsTraceStream bytes) (sym is) (stream.0, stream.1, record { read = stream.2.read; judged = stream.2.judged })

-- nor do the labels that are kept
earlier_besides : (x y : TraceStream) (bytes : List ℕ) → y ≡ record x { earlier = y.earlier } → IsTraceStream bytes x → IsTraceStream bytes y
earlier_besides x y bytes is stream =
    subst (IsTraceStream bytes) (sym is) (stream.0, stream.1, record { read = stream.2.read; judged = stream.2.judged })

-- nor do the races that are told
races_besides : (x y : TraceStream) (bytes : List ℕ) → y ≡ record x { races = y.races } → IsTraceStream bytes x → IsTraceStream bytes y
races_besides x y bytes is stream =
    subst (IsTraceStream bytes) (sym is) (stream.0, stream.1, record { read = stream.2.read; judged = stream.2.judged })

pub keep_labelled-requires : goal.keep_labelled-requires
keep_labelled-requires c =
    let bytes = c.requires.0 in
    let raced = kept_besides c.args.self.now c.keep_race.new.self bytes c.keep_race.ensures c.requires.1 in
    (bytes, races_besides c.keep_race.new.self c.note_races.new.self bytes c.note_races.ensures raced)

pub returns-in_ok-keep_labelled-clause-stream : goal.returns-in_ok-keep_labelled-clause-stream
returns-in_ok-keep_labelled-clause-stream c = λ bytes was.
    let x = c.keep_labelled.new.self in
    let y = c.let_go.new.self in
    let raced = kept_besides c.args.self.now c.keep_race.new.self bytes c.keep_race.ensures was in
    let noted = races_besides c.keep_race.new.self c.note_races.new.self bytes c.note_races.ensures raced in
    let stream = earlier_besides c.note_races.new.self x bytes c.keep_labelled.ensures noted in
    let front = stream.0 in
    let told = stream.1 in
    let none = c.let_go.ensures.events in
    let all = sym (append-nil (front ++ x.reader.events)) ∙ ap (λ (xs : List Event). (front ++ x.reader.events) ++ xs) (sym none) in (
      front ++ x.reader.events,
      told ++ x.reader.labels,
      record {
        read = c.let_go.ensures.fed bytes front told stream.2.read;
        judged = subst (λ s. IsStreamJudge x.rules s ((front ++ x.reader.events) ++ y.events) x.judge) (sym c.let_go.ensures.sizes)
            (subst (λ xs. IsStreamJudge x.rules x.reader.sizes xs x.judge) all stream.2.judged);
      },
    )
