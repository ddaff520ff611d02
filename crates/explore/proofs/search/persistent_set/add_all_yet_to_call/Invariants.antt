use Rattle.std.proofs.Common.{ℕ, ◌≡◌, ◌<◌, [], length}
use Rattle.std.specs.Prelude.{slice_index, slice_index_or}
use Rattle.explore.specs.PersistentSets.{IsPersistentMember, KeepsPersistentMembers}
use Rattle.explore.proofs.search.persistent_set.add_all_yet_to_call.Given as goal

abbrev pub invariant-loop-processor : goal.invariant-loop-processor
invariant-loop-processor l = record {
  keeps : KeepsPersistentMembers l.fn.members l.members;
  all : (p : ℕ) → p < l.processor → slice_index l.state.done p < slice_index_or (slice_index_or l.ends p []) l.number 0 → IsPersistentMember l.members p;
  long : length l.members ≡ length l.fn.members;
}
