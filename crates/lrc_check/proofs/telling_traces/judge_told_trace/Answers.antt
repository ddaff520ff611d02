use Rattle.std.proofs.Common.{subst, sym}
use Rattle.judge.specs.JudgedSizes.{AreStreamedSizes, judged_sizes_of}
use Rattle.lrc_check.proofs.FoundRaces.{found_is_race}
use Rattle.lrc_check.proofs.telling_traces.judge_told_trace.Goals as goal

pub judge_history-requires-clause-sizes : goal.judge_history-requires-clause-sizes
judge_history-requires-clause-sizes c = subst AreStreamedSizes (sym c.trace_history_sizes.ensures) c.requires.sizes.streamed

pub trace_race_apart-requires-clause-race : goal.trace_race_apart-requires-clause-race
trace_race_apart-requires-clause-race c =
    found_is_race c.args.rules (judged_sizes_of c.trace_history_sizes.result) c.deref-events.result.now c.in_ok-found.found
    c.in_ok-found.ensures.found
