-- What the history that turns make has of a processor's calls.
use Rattle.std.specs.Prelude.{ℕ, ◌≡◌, Some, List, [], slice_get}
use Rattle.journal.specs.declared.event.Event.{Event}
use Rattle.lrc_script.specs.Plan.{Plan}
use Rattle.conformance.specs.Follows.{calls_of}
use Rattle.conformance.specs.OpenBlocks.{open_block_handed_in, open_block}
use Rattle.conformance.specs.ScriptTurns.{AreScriptTurns, ScriptTurnStage, first_script_turn_stages}

-- with p's open block behind it the history has just what p has called
abbrev pub HasTurnCalls : List Event → ℕ → ScriptTurnStage → Type 0
HasTurnCalls h p x = calls_of (open_block_handed_in p (open_block h x.pending)) p ≡ x.calls

-- so it is of each processor, whatever turns of a script there were
abbrev pub TurnCallsLaw : Type 0
TurnCallsLaw = (s : Plan) (turns : List ℕ) (h : List Event) (xs : List ScriptTurnStage) → AreScriptTurns s turns [] (first_script_turn_stages s) h xs
    → (p : ℕ) (x : ScriptTurnStage) → slice_get xs p ≡ Some x → HasTurnCalls h p x
