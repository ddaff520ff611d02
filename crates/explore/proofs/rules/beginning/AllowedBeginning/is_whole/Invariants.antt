use Rattle.std.proofs.Common.{ℕ, ◌≡◌, ◌<◌, ◌≤◌, ◌==◌, Some, count_by, length, slice_get}
use Rattle.std.specs.Global.{Vec}
use Rattle.journal.specs.declared.event.Event.{Event}
use Rattle.explore.specs.declared.prefixes.script_call.ScriptCall.{ScriptCall}
use Rattle.explore.specs.AllowedBeginnings.{allowed_beginning_events}
use Rattle.explore.proofs.rules.beginning.AllowedBeginning.is_whole.Given as goal

abbrev pub invariant-loop-processor : goal.invariant-loop-processor
invariant-loop-processor l = (p : ℕ) (row : Vec ScriptCall) → p < l.processor → slice_get l.steps p ≡ Some row
    → length row.items ≤ count_by (λ (e : Event). e.processor == p) (allowed_beginning_events l.self)
