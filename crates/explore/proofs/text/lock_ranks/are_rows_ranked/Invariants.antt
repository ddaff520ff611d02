use Rattle.std.proofs.Common.{ℕ, ◌≡◌, ◌<◌, Some, slice_get, slice_index_or}
use Rattle.std.specs.Global.{Vec}
use Rattle.explore.specs.declared.prefixes.script_call.ScriptCall.{ScriptCall}
use Rattle.explore.specs.LockRanks.{IsRowLockRanked}
use Rattle.explore.proofs.text.lock_ranks.are_rows_ranked.Given as goal

abbrev pub invariant-loop-row : goal.invariant-loop-row
invariant-loop-row l = (p : ℕ) (row : Vec ScriptCall) → p < l.row-index → slice_get l.steps p ≡ Some row
    → IsRowLockRanked (λ k. slice_index_or l.ranks k 0) row.items
