-- How far processors are in their sections.
use Rattle.std.specs.Prelude.{ℕ, ◌≡◌, ◌≤◌, Some, List, length, slice_get, take}
use Rattle.lrc_script.specs.declared.script.Instruction.{Instruction}
use Rattle.cluster.specs.Copies.Local.{Local}
use Rattle.cluster.specs.NewClusters.{SharedCluster}
use Rattle.conformance.specs.declared.progress.TurnProgress.{TurnProgress}
use Rattle.conformance.specs.declared.progress.TurnProgress.TheVariants.{Next, Waits, Passed}
use Rattle.conformance.specs.ScriptTurns.{script_turn_instruction}
use Rattle.lrc_run.specs.RunCalls.{HasRunCallsOfAll, IsRunCallBegun, HasRunCallsOfWalk, new_at_run_call}

-- it has done its first n instructions, and begun the next one
pub record IsRunStepBegun (old new : Local) (section : List Instruction) (n : ℕ) : Type 0 where
  pub between : Local
  pub done : HasRunCallsOfAll old between (take n section)
  pub begins : IsRunCallBegun between new (script_turn_instruction section n)

-- it has done so much of its section
abbrev pub IsAtRunStep : Local → Local → List Instruction → TurnProgress → Type 0
IsAtRunStep old new section (Next n) = HasRunCallsOfAll old new (take n section) × (n ≤ length section)
IsAtRunStep old new section (Waits n) = IsRunStepBegun old new section n × (n ≤ length section)
IsAtRunStep old new section Passed = HasRunCallsOfWalk old new section

-- each of the cluster's processors has, from its start
pub record AreAtRunSteps (c : SharedCluster) (sections : List (List Instruction)) (ms : List Local)
    (all : List TurnProgress) : Type 0 where
  pub many : length ms ≡ c.sizes.processors
  pub long : length all ≡ c.sizes.processors
  pub each : (p : ℕ) (section : List Instruction) (m : Local) (at : TurnProgress) → slice_get sections p ≡ Some section
      → slice_get ms p ≡ Some m → slice_get all p ≡ Some at → IsAtRunStep (new_at_run_call c p) m section at
