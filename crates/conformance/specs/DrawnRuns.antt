-- Runs whose turns are drawn.
use Rattle.std.specs.Prelude.{ℕ, ◌≡◌, ◌≤◌, ◌⊎◌, ◌++◌, Some, List, [], length, slice_get}
use Rattle.journal.specs.declared.event.Event.{Event}
use Rattle.lrc_script.specs.declared.script.Instruction.{Instruction}
use Rattle.lrc_script.specs.Plan.{Plan}
use Rattle.conformance.specs.Draws.{Drawing, draws_turns_about, draws_walk, drawing_after, drawing_of, drawn_tries, drawn_turns}
use Rattle.conformance.specs.OrderedTurns.{IsEndByOrderedTurns}
use Rattle.conformance.specs.ScheduleTexts.{schedule_orders}
use Rattle.conformance.specs.ScriptTurns.{AreScriptTurns, ScriptTurnStage, first_script_turn_stages}
use Rattle.conformance.specs.declared.ended.Ended.{Ended}
use Rattle.conformance.specs.declared.progress.TurnProgress.{TurnProgress}
use Rattle.conformance.specs.declared.progress.TurnProgress.TheVariants.{Next, Passed, Waits}

-- a processor with this section has arrived at the closing barrier
abbrev pub HasArrivedAtDrawnEnd : List Instruction → TurnProgress → Type 0
HasArrivedAtDrawnEnd section (Next n) = ⊥
HasArrivedAtDrawnEnd section (Waits n) = length section ≤ n
HasArrivedAtDrawnEnd section Passed = Unit {0}

-- by turns of these processors, from the script's start on, all have
pub record HaveArrivedByDrawnTries (s : Plan) (tries : List ℕ) : Type 0 where
  pub history : List Event
  pub stages : List ScriptTurnStage
  pub turns : AreScriptTurns s tries [] (first_script_turn_stages s) history stages
  pub arrived : (p : ℕ) (section : List Instruction) (x : ScriptTurnStage) → slice_get s.sections p ≡ Some section
      → slice_get stages p ≡ Some x → HasArrivedAtDrawnEnd section x.progress

-- who is tried for the turns of those at these places, by the seed's draws
abbrev pub drawn_tries_of : Plan → ℕ → List ℕ → List ℕ
drawn_tries_of s seed places =
    drawn_tries (draws_walk seed) (draws_turns_about s.sections) (drawing_of seed s.processors) places

-- who has these turns
abbrev pub drawn_turns_of : Plan → ℕ → List ℕ → List ℕ
drawn_turns_of s seed places =
    drawn_turns (draws_walk seed) (draws_turns_about s.sections) (drawing_of seed s.processors) places

-- the drawing after them
abbrev pub drawing_after_of : Plan → ℕ → List ℕ → Drawing
drawing_after_of s seed places =
    drawing_after (draws_walk seed) (draws_turns_about s.sections) (drawing_of seed s.processors) places

-- the seed draws these turns for the script, and the run ends so: for each turn the processors are tried in the order that
-- is due, and the first that gets on has it, until all have arrived at the closing barrier, or none of the order gets on. A
-- try is a turn that may be in vain. Rounds by rising number follow.
pub record IsRunOfDraws (s : Plan) (seed : ℕ) (turns : List ℕ) (ended : Ended) : Type 0 where
  pub places : List ℕ
  pub turns_are : turns ≡ drawn_turns_of s seed places
  pub tried : (HaveArrivedByDrawnTries s (drawn_tries_of s seed places)
      × IsEndByOrderedTurns s (schedule_orders s (drawn_tries_of s seed places)) ended)
      ⊎ IsEndByOrderedTurns s (schedule_orders s (drawn_tries_of s seed places ++ (drawing_after_of s seed places).order)) ended
