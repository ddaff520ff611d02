-- All processors of a new cluster, each on its way through its section.
use Rattle.std.specs.Prelude.{ℕ, ◌≡◌, Option, Some, None, List, Result, Ok, Err, length, slice_get}
use Rattle.lrc_script.specs.declared.script.Instruction.{Instruction}
use Rattle.cluster.specs.Copies.Local.{Local}
use Rattle.cluster.specs.NewClusters.{SharedCluster}
use Rattle.conformance.specs.declared.cause.Cause.{Cause}
use Rattle.conformance.specs.declared.cause.Cause.TheVariants.{Stuck, Thread}
use Rattle.lrc_run.specs.RunCalls.{HasRunCallsOfWalk, new_at_run_call}
use Rattle.lrc_run.specs.LooksInVain.{HasGivenUpWalk}

-- what came of a processor that was to walk its section: it has, or it went no further; if it is stuck it has given up
abbrev pub IsWalkResult : ℕ → Local → List Instruction → Result Local Cause → Type 0
IsWalkResult tries old section (Ok m) = HasRunCallsOfWalk old m section
IsWalkResult tries old section (Err cause) = cause ≡ Stuck → (m : Local) × HasGivenUpWalk tries old m section

-- what came of each
pub record AreThreadResults (tries : ℕ) (c : SharedCluster) (sections : List (List Instruction)) (outcomes : List (Result Local Cause))
    : Type 0 where
  pub all : length outcomes ≡ c.sizes.processors
  pub each : (p : ℕ) (section : List Instruction) (outcome : Result Local Cause) → slice_get sections p ≡ Some section
      → slice_get outcomes p ≡ Some outcome → IsWalkResult tries (new_at_run_call c p) section outcome

-- what a thread is started with
pub record ThreadErrand : Type 0 where
  pub processor : Local
  pub section : List Instruction
  pub tries : ℕ

-- a thread for each processor, with its section and these tries, or None if it couldn't be started
pub record AreThreadsStarted (tries : ℕ) (ms : List Local) (sections : List (List Instruction)) (threads : List (Option ThreadErrand))
    : Type 0 where
  pub all : length threads ≡ length ms
  pub processors : (p : ℕ) (e : ThreadErrand) → slice_get threads p ≡ Some (Some e) → slice_get ms p ≡ Some e.processor
  pub sections_are : (p : ℕ) (e : ThreadErrand) → slice_get threads p ≡ Some (Some e)
      → slice_get sections p ≡ Some e.section
  pub tries_are : (p : ℕ) (e : ThreadErrand) → slice_get threads p ≡ Some (Some e) → e.tries ≡ tries

-- what a thread gives back
abbrev pub IsThreadResultOf : Option ThreadErrand → Result Local Cause → Type 0
IsThreadResultOf (Some e) outcome = IsWalkResult e.tries e.processor e.section outcome
IsThreadResultOf None (Ok m) = ⊥
IsThreadResultOf None (Err cause) = cause ≡ Thread

-- each of them
pub record AreThreadResultsOf (threads : List (Option ThreadErrand)) (outcomes : List (Result Local Cause)) : Type 0 where
  pub all : length outcomes ≡ length threads
  pub each : (p : ℕ) (thread : Option ThreadErrand) (outcome : Result Local Cause) → slice_get threads p ≡ Some thread
      → slice_get outcomes p ≡ Some outcome → IsThreadResultOf thread outcome
