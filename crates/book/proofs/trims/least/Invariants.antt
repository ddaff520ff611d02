use Rattle.std.proofs.Common.{◌≡◌, [], take, fold, slice_index, slice_index_or}
use Rattle.book.specs.Transitions.{transition_lesser}
use Rattle.book.proofs.trims.least.Given as goal

abbrev pub invariant-loop-time : goal.invariant-loop-time
invariant-loop-time l =
    l.least ≡ fold (transition_lesser l.q) (slice_index (slice_index_or l.times 0 []) l.q) (take l.time-index l.times)
