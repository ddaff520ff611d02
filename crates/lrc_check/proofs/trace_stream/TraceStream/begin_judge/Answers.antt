use Rattle.std.proofs.Common.{◌≡◌, ℕ, [], ◌++◌, List, Option, Some, take, subst, sym, refl, ap, ◌∙◌, false}
use Rattle.std.specs.Prelude.{None, MatchOption, is_some, not}
use Rattle.journal.specs.declared.event.Event.{Event}
use Rattle.judge.specs.JudgedSizes.{AreStreamedSizes, judged_sizes_of}
use Rattle.lrc_check.specs.declared.history_judge.HistoryJudge.{HistoryJudge}
use Rattle.lrc_check.specs.declared.trace_stream.TraceStream.{TraceStream}
use Rattle.lrc_check.specs.HistoryJudge.{IsHistoryJudgeOf}
use Rattle.lrc_check.specs.TraceStreams.{HasStreamReadOn, IsStreamJudgeOf}
use Rattle.lrc_check.proofs.StreamedTraces.{stream_fits}
use Rattle.lrc_check.proofs.trace_stream.TraceStream.begin_judge.Goals as goal

-- without a judge nothing was judged
nothing_judged : (x : TraceStream) (front : List Event) (seen : ℕ) → HasStreamReadOn front seen x → x.judge ≡ None
    → front ++ take seen x.reader.events ≡ []
nothing_judged x front seen read none =
    subst (λ (o : Option HistoryJudge). MatchOption o (front ++ take seen x.reader.events ≡ [])
    (IsStreamJudgeOf x.rules x.reader.sizes (front ++ take seen x.reader.events))) none read.judged

-- there is none, if none is told
no_judge : (o : Option HistoryJudge) → is_some o ≡ false → o ≡ None
no_judge None is = refl
no_judge (Some h) is = absurd cc

pub new-requires : goal.new-requires
new-requires c =
    subst AreStreamedSizes (sym c.trace_history_sizes.ensures)
    (stream_fits c.in-Some.sizes c.requires.read.2 (sym c.sizes.ensures ∙ c.in-Some.is))

pub returns-in_ok-judge-clause-begun : goal.returns-in_ok-judge-clause-begun
returns-in_ok-judge-clause-begun c = λ front seen read.
    let x = c.args.self.now in
    let none = nothing_judged x front seen read (no_judge x.judge (c.is_none.ensures ∙ ap not c.if-is_none.true)) in
    record {
      trace = read.trace;
      within = read.within;
      judged = subst (λ o. MatchOption o (front ++ take seen x.reader.events ≡ []) (IsStreamJudgeOf x.rules x.reader.sizes (front ++ take seen x.reader.events)))
          (sym c.replace.ensures.after) record {
            known = c.in-Some.sizes;
            sizes_are = sym c.sizes.ensures ∙ c.in-Some.is;
            judged_sizes = ap judged_sizes_of c.in_ok-judge.ensures.sizes ∙ c.trace_history_sizes.ensures;
            rules_are = c.in_ok-judge.ensures.rules;
            judged = subst (λ j. IsHistoryJudgeOf j c.in_ok-judge.judge) (sym none) c.in_ok-judge.ensures.judged;
          };
    }
