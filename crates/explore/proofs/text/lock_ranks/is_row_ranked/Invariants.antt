use Rattle.std.proofs.Common.{ℕ, ◌≡◌, ◌<◌, IsTrue, Some, false, slice_get, slice_index_or}
use Rattle.journal.specs.declared.event.Kind.TheVariants.{Acquire}
use Rattle.explore.specs.declared.prefixes.script_call.ScriptCall.{ScriptCall}
use Rattle.explore.specs.declared.prefixes.script_call.ScriptCall.TheVariants.{Call}
use Rattle.explore.specs.LockRanks.{ends_unlocked_wait}
use Rattle.explore.specs.TextGuards.{text_guard_held_at}
use Rattle.explore.proofs.text.lock_ranks.is_row_ranked.Given as goal

abbrev pub invariant-loop-step : goal.invariant-loop-step
invariant-loop-step l = record {
  held : (m : ℕ) → slice_index_or l.held m false ≡ text_guard_held_at l.row l.step-index m;
  falls : (i k m : ℕ) → i < l.step-index → slice_get l.row i ≡ Some (Call (Acquire k)) → IsTrue (text_guard_held_at l.row i m)
      → slice_index_or l.ranks k 0 < slice_index_or l.ranks m 0;
  unlocked : (i m : ℕ) (step : ScriptCall) → i < l.step-index → slice_get l.row i ≡ Some step → IsTrue (ends_unlocked_wait step)
      → ¬ IsTrue (text_guard_held_at l.row i m);
}
