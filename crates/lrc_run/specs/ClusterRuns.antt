-- Runs of a script on a cluster: what its processors have done.
use Rattle.std.specs.Prelude.{ℕ, ◌≡◌, Some, List, Result, Ok, Err, slice_get}
use Rattle.journal.specs.Log.{Log}
use Rattle.lrc_script.specs.declared.script.Instruction.{Instruction}
use Rattle.lrc_script.specs.Plan.{Plan}
use Rattle.lrc_report.specs.declared.report.Report.{Report}
use Rattle.cluster.specs.Copies.Local.{Local}
use Rattle.turn.specs.Boards.{counting_board_width, pointing_board_width}
use Rattle.cluster.specs.NewClusters.{IsClusterLockOf, SharedCluster}
use Rattle.conformance.specs.Follows.{plan_sizes}
use Rattle.conformance.specs.declared.cause.Cause.TheVariants.{Stuck}
use Rattle.conformance.specs.declared.cause.RunFault.{RunFault}
use Rattle.conformance.specs.declared.ended.Ended.{Ended}
use Rattle.conformance.specs.declared.ended.Ended.TheVariants.{Halted, Whole}
use Rattle.conformance.specs.declared.progress.TurnProgress.{TurnProgress}
use Rattle.conformance.specs.declared.script_runner.LockChoice.{LockChoice}
use Rattle.conformance.specs.declared.script_runner.LockChoice.TheVariants.{Array, Ticket}
use Rattle.lrc_run.specs.FollowedEnds.{IsFollowedEndHaltWith, IsFollowedEndReportAfter}
use Rattle.lrc_run.specs.LooksInVain.{HasGivenUpWalk}
use Rattle.lrc_run.specs.RunCalls.{HaveRunCallsOfWalks, new_at_run_call}
use Rattle.lrc_run.specs.RunSteps.{AreAtRunSteps}

-- how many words the table of a lock has that was asked for, by its chairs
abbrev pub lock_choice_width : LockChoice → ℕ → ℕ
lock_choice_width Array = pointing_board_width
lock_choice_width Ticket = counting_board_width

-- the report tells of processors of a cluster, with a lock of this width, that have each walked its section of the script
pub record IsClusterReport (width : ℕ → ℕ) (s : Plan) (r : Report) : Type 0 where
  pub cluster : SharedCluster
  pub lock_is : IsClusterLockOf width cluster
  pub processors : List Local
  pub walked : HaveRunCallsOfWalks cluster s.sections processors
  pub told : IsFollowedEndReportAfter s r processors

-- the journal tells of processors of such a cluster on their way through their sections
pub record IsClusterHalt (width : ℕ → ℕ) (s : Plan) (j : Log) : Type 0 where
  pub cluster : SharedCluster
  pub lock_is : IsClusterLockOf width cluster
  pub processors : List Local
  pub progress : List TurnProgress
  pub way : AreAtRunSteps cluster s.sections processors progress
  pub told : IsFollowedEndHaltWith s j processors

-- one of the two
abbrev pub IsClusterEnd : (ℕ → ℕ) → Plan → Ended → Type 0
IsClusterEnd width s (Whole report) = IsClusterReport width s report
IsClusterEnd width s (Halted halt) = IsClusterHalt width s halt.journal

-- processor p of such a cluster, of the script's sizes, has given up on its way through its section
pub record IsStuckInClusterRun (width : ℕ → ℕ) (s : Plan) (tries p : ℕ) : Type 0 where
  pub cluster : SharedCluster
  pub lock_is : IsClusterLockOf width cluster
  pub sizes : cluster.sizes ≡ plan_sizes s
  pub section : List Instruction
  pub section_is : slice_get s.sections p ≡ Some section
  pub last : Local
  pub gives_up : HasGivenUpWalk tries (new_at_run_call cluster p) last section

-- what comes of a run with a thread for each processor
abbrev pub IsClusterRun : (ℕ → ℕ) → Plan → ℕ → Result Report RunFault → Type 0
IsClusterRun width s tries (Ok report) = IsClusterReport width s report
IsClusterRun width s tries (Err fault) = fault.cause ≡ Stuck → IsStuckInClusterRun width s tries fault.processor
