use Rattle.std.proofs.Common.{ℕ, ◌<◌, slice_index_or}
use Rattle.judge.specs.JudgedSizes.{judged_sizes_of}
use Rattle.c_library.specs.declared.given.GivenEvent.{GivenEvent}
use Rattle.c_library.specs.GivenHistories.{IsGivenHistoryEvent}
use Rattle.c_library.proofs.given_history.are_given_history_events.Given as goal

abbrev pub invariant-loop-event : goal.invariant-loop-event
invariant-loop-event l =
    (k : ℕ) (d : GivenEvent) → k < l.event-index → IsGivenHistoryEvent (judged_sizes_of l.sizes) (slice_index_or l.events k d)
