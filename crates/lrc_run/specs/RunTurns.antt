-- Turns of a cluster's processors.
use Rattle.std.specs.Prelude.{ℕ, zero, suc, ◌≡◌, Bool, false, Option, Some, None, List, [], ◌∷◌, length, slice_get, slice_set}
use Rattle.lrc_script.specs.declared.script.Instruction.{Instruction}
use Rattle.journal.specs.Deadlocks.{IsDeadlock}
use Rattle.lrc_script.specs.Plan.{Plan}
use Rattle.cluster.specs.Copies.Local.{Local, calls}
use Rattle.cluster.specs.ProcessorCalls.{IsSameProcessorOfCall}
use Rattle.cluster.specs.NewClusters.{SharedCluster}
use Rattle.cluster.specs.TakingCalls.{IsTakingCallLate}
use Rattle.conformance.specs.declared.progress.TurnProgress.{TurnProgress}
use Rattle.conformance.specs.declared.progress.TurnProgress.TheVariants.{Next, Waits, Passed}
use Rattle.conformance.specs.OrderedTurns.{ordered_turns_of_seed}
use Rattle.conformance.specs.ScriptTurns.{script_turn_instruction, script_turn_progress_after}
use Rattle.lrc_run.specs.RunSteps.{AreAtRunSteps}
use Rattle.lrc_run.specs.RunCalls.{IsRunCallUnderway, SeesNoFewerRunCalls, IsRunCallOfTake}

-- it has done instruction n, or begun it and looked in vain for what that waits for, and then is there
pub record RunTurnGoesOn (section : List Instruction) (old : Local) (n : ℕ) (new : Local) (to : TurnProgress) : Type 0 where
  pub done : Bool
  pub way : IsRunCallUnderway old new (script_turn_instruction section n) done
  pub late : done ≡ false → IsTakingCallLate new
  pub to_is : to ≡ script_turn_progress_after section n done

-- it has looked once for what instruction n waits for, and then is there
pub record RunTurnLooks (section : List Instruction) (old : Local) (n : ℕ) (new : Local) (to : TurnProgress) : Type 0 where
  pub taken : Bool
  pub takes : IsRunCallOfTake old new taken
  pub to_is : to ≡ script_turn_progress_after section n taken

-- what a turn makes of a processor that is at this place, and where it is then
abbrev pub RunTurnMakes : List Instruction → Local → TurnProgress → Local → TurnProgress → Type 0
RunTurnMakes section old (Next n) new to = RunTurnGoesOn section old n new to
RunTurnMakes section old (Waits n) new to = RunTurnLooks section old n new to
RunTurnMakes section old Passed new to = (new ≡ old) × (to ≡ Passed)

-- the processor at p has seen all that each has seen
abbrev pub HasSeenAllRunTurns : List Local → ℕ → Type 0
HasSeenAllRunTurns ms p = (m : Local) → slice_get ms p ≡ Some m → (q : ℕ) (x : Local) → slice_get ms q ≡ Some x → SeesNoFewerRunCalls x m

-- it is as it was, except that it may have seen more of the history
pub record HasOnlySeenRunTurns (old new : Local) : Type 0 where
  pub same : IsSameProcessorOfCall old new
  pub sees : SeesNoFewerRunCalls old new
  pub calls_are : calls new ≡ calls old
  pub block_is : new.block ≡ old.block
  pub awaits_is : new.awaits ≡ old.awaits
  pub uncut : new.own_cut ≡ old.own_cut

-- each of them
pub record AreRunTurnsSeenOn (old new : List Local) : Type 0 where
  pub all : length new ≡ length old
  pub each : (p : ℕ) (m n : Local) → slice_get old p ≡ Some m → slice_get new p ≡ Some n → HasOnlySeenRunTurns m n

-- each of them, and if processor 0 had seen all that each had, it has again
pub record AreRunTurnsSeenAhead (old new : List Local) : Type 0 where
  pub on : AreRunTurnsSeenOn old new
  pub ahead : HasSeenAllRunTurns old 0 → HasSeenAllRunTurns new 0

-- processor p alone has seen more, and so all that q has seen
pub record SeesRunTurnsOf (old : List Local) (p q : ℕ) (new : List Local) : Type 0 where
  pub before : Local
  pub after : Local
  pub before_is : slice_get old p ≡ Some before
  pub on : HasOnlySeenRunTurns before after
  pub beyond : (x : Local) → slice_get old q ≡ Some x → SeesNoFewerRunCalls x after
  pub new_is : new ≡ slice_set old p after

-- the turn of processor p, and the others stay as they are and where they are
pub record IsRunTurnAlone (sections : List (List Instruction)) (p : ℕ) (old new : List Local) (all to : List TurnProgress)
    : Type 0 where
  pub section : List Instruction
  pub before : Local
  pub after : Local
  pub at : TurnProgress
  pub next : TurnProgress
  pub section_is : slice_get sections p ≡ Some section
  pub before_is : slice_get old p ≡ Some before
  pub at_is : slice_get all p ≡ Some at
  pub takes : RunTurnMakes section before at after next
  pub new_is : new ≡ slice_set old p after
  pub to_is : to ≡ slice_set all p next

-- p takes its turn when it has seen all that each had seen, and then processor 0 sees all
pub record IsTurnOfRun (sections : List (List Instruction)) (p : ℕ) (old new : List Local) (all to : List TurnProgress)
    : Type 0 where
  pub seen : List Local
  pub turned : List Local
  pub first : AreRunTurnsSeenOn old seen
  pub turn : IsRunTurnAlone sections p seen turned all to
  pub last : AreRunTurnsSeenOn turned new
  pub latest : HasSeenAllRunTurns old 0 → HasSeenAllRunTurns seen p
  pub ahead : HasSeenAllRunTurns old 0 → HasSeenAllRunTurns new 0

-- the turns of these processors, one after another
abbrev pub AreRunTurns : List (List Instruction) → List ℕ → List Local → List Local → List TurnProgress → List TurnProgress
    → Type 0
AreRunTurns sections [] old new all to = (new ≡ old) × (to ≡ all)
AreRunTurns sections (p ∷ ps) old new all to =
    (between : List Local) × (half : List TurnProgress) × IsTurnOfRun sections p old between all half
    × AreRunTurns sections ps between new half to

-- a round: all have their turns in this order, and then may see more
pub record IsRunTurnRound (sections : List (List Instruction)) (order : List ℕ) (old new : List Local) (all to : List TurnProgress)
    : Type 0 where
  pub turned : List Local
  pub turns : AreRunTurns sections order old turned all to
  pub seen : AreRunTurnsSeenAhead turned new

-- rounds in these orders, from where they are
abbrev pub AreRunTurnRounds : Plan → (ℕ → List ℕ) → ℕ → List Local → List TurnProgress → List Local → List TurnProgress → Type 0
AreRunTurnRounds s orders zero old start new all = (new ≡ old) × (all ≡ start)
AreRunTurnRounds s orders (suc k) old start new all =
    (between : List Local) × (half : List TurnProgress) × AreRunTurnRounds s orders k old start between half
    × IsRunTurnRound s.sections (orders k) between new half all

-- in what processor 0 has seen each processor waits, and none is ready
abbrev pub IsRunTurnDeadlockSeen : List Local → Type 0
IsRunTurnDeadlockSeen ms = (m : Local) × (slice_get ms 0 ≡ Some m) × IsDeadlock m.sizes m.seen

-- processors that were on their way through the script have gone on, in rounds of this seed's orders
pub record HaveGoneOnInRunTurns (c : SharedCluster) (s : Plan) (seed : Option ℕ) (old new : List Local) (start all : List TurnProgress)
    : Type 0 where
  pub way : AreAtRunSteps c s.sections new all
  pub count : ℕ
  pub rounds : AreRunTurnRounds s (ordered_turns_of_seed s seed) count old start new all

-- the turns of these processors, one after another; before each of them, and after the last, all may see more
abbrev pub AreRunTurnsTaken : List (List Instruction) → List ℕ → List Local → List Local → List TurnProgress → List TurnProgress
    → Type 0
AreRunTurnsTaken sections [] old new all to = AreRunTurnsSeenAhead old new × (to ≡ all)
AreRunTurnsTaken sections (p ∷ ps) old new all to =
    (seen : List Local) × (between : List Local) × (half : List TurnProgress) × AreRunTurnsSeenAhead old seen
    × IsTurnOfRun sections p seen between all half × AreRunTurnsTaken sections ps between new half to

-- processors that were on their way through the script have taken these turns, and then gone on in rounds by rising number
pub record HaveGoneOnAfterRunTurns (c : SharedCluster) (s : Plan) (turns : List ℕ) (old new : List Local) (start all : List TurnProgress)
    : Type 0 where
  pub between : List Local
  pub half : List TurnProgress
  pub first : AreRunTurnsTaken s.sections turns old between start half
  pub gone : HaveGoneOnInRunTurns c s None between new half all
