use Rattle.std.proofs.Common.{◌≡◌, take, vec_len}
use Rattle.judge.specs.FetchGaps.{TellsFetchGaps}
use Rattle.judge.specs.JudgedSizes.{judged_sizes_of}
use Rattle.causes.specs.EventStates.{AreEventStates}
use Rattle.causes.proofs.states_of_events.all_event_states.Given as goal

abbrev pub invariant-loop-place : goal.invariant-loop-place
invariant-loop-place l = record {
  tells : TellsFetchGaps (take l.place l.events) l.gaps;
  sizes : l.gaps.sizes ≡ l.fn.gaps.sizes;
  long : vec_len l.rows ≡ l.place;
  rows : AreEventStates (judged_sizes_of l.fn.gaps.sizes) l.events l.asked l.rows.items;
}
