use Rattle.std.proofs.Common.{ℕ, ◌≢◌, ◌+◌, ◌≤◌, Some, length, slice_index_or}
use Rattle.std.specs.Prelude.{None}
use Rattle.journal.specs.declared.event.Kind.{Kind}
use Rattle.explore.proofs.state.found_states.last_next.Given as goal

abbrev pub invariant-loop-behind : goal.invariant-loop-behind
invariant-loop-behind l = (p : ℕ) (k : Kind) → length l.nexts ≤ p + l.behind → slice_index_or l.nexts p None ≢ Some k
