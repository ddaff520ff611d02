-- Turns: what each makes of the processors of a script, on their way through their sections, and of the history.
use Rattle.std.specs.Prelude.{ℕ, zero, suc, ◌≡◌, ◌⊎◌, ◌+◌, Bool, true, false, cond, nat_lt, Some, List, [], ◌∷◌, ◌++◌, length, replicate, map, slice_get, slice_index_or, slice_set}
use Rattle.journal.specs.declared.event.Event.{Event}
use Rattle.journal.specs.declared.event.Kind.{Kind}
use Rattle.journal.specs.DidEvent.{event}
use Rattle.journal.specs.AwaitedNext.{awaited_next}
use Rattle.journal.specs.WellFormed.{Ready}
use Rattle.lrc_script.specs.declared.script.Instruction.{Instruction}
use Rattle.lrc_script.specs.declared.script.Instruction.TheVariants.{Barrier}
use Rattle.lrc_script.specs.Plan.{Plan}
use Rattle.conformance.specs.Follows.{calls_of, plan_sizes}
use Rattle.conformance.specs.InstructionEvents.{AreEventsOfInstruction}
use Rattle.conformance.specs.OpenBlocks.{OpenBlockNotesAll, OpenBlock, open_block_handed_in, open_block}
use Rattle.conformance.specs.declared.progress.TurnProgress.{TurnProgress}
use Rattle.conformance.specs.declared.progress.TurnProgress.TheVariants.{Next, Waits, Passed}

-- instruction n of a section; after the last one the closing barrier
abbrev pub script_turn_instruction : List Instruction → ℕ → Instruction
script_turn_instruction section n = slice_index_or section n Barrier

-- what comes after instruction n was done, or begun
abbrev pub script_turn_progress_after : List Instruction → ℕ → Bool → TurnProgress
script_turn_progress_after section n true = cond (nat_lt n (length section)) (Next (n + 1)) Passed
script_turn_progress_after section n false = Waits n

-- how far a processor is, what it has called until then, and its open block
pub record ScriptTurnStage : Type 0 where
  pub progress : TurnProgress
  pub calls : List Kind
  pub pending : List Kind

abbrev pub script_turn_stage : TurnProgress → List Kind → List Kind → ScriptTurnStage
script_turn_stage at calls pending = record { progress = at; calls = calls; pending = pending }

-- by p's calls the one history comes to be the other, and the one open block the other
abbrev pub AreCallsOfScriptTurn : Plan → ℕ → List Kind → List Event → List Kind → List Event → List Kind → Type 0
AreCallsOfScriptTurn s p kinds h pending to left = OpenBlockNotesAll (plan_sizes s) p kinds (open_block h pending) (open_block to left)

-- by the history so far, in which p has made just these calls, p isn't ready
pub record ScriptTurnLooksInVain (s : Plan) (h : List Event) (p : ℕ) (calls : List Kind) : Type 0 where
  pub calls_are : calls_of h p ≡ calls
  pub late : ¬ Ready (plan_sizes s) h p

-- instruction n was done, by these calls, from one history and stage to the next
pub record ScriptTurnIsDone (s : Plan) (p : ℕ) (section : List Instruction) (n : ℕ) (h : List Event) (old : ScriptTurnStage) (to : List Event)
    (new : ScriptTurnStage) : Type 0 where
  pub kinds : List Kind
  pub are : AreEventsOfInstruction (script_turn_instruction section n) kinds
  pub noted : AreCallsOfScriptTurn s p kinds h old.pending to new.pending
  pub new_is : new ≡ script_turn_stage (script_turn_progress_after section n true) (old.calls ++ kinds) new.pending

-- it was begun by a call that waits, and what that waits for looked for in vain
pub record ScriptTurnIsBegun (s : Plan) (p : ℕ) (section : List Instruction) (n : ℕ) (h : List Event) (old : ScriptTurnStage) (to : List Event)
    (new : ScriptTurnStage) : Type 0 where
  pub first : Kind
  pub last : Kind
  pub are : AreEventsOfInstruction (script_turn_instruction section n) (first ∷ last ∷ [])
  pub waits : awaited_next first ≡ Some last
  pub noted : AreCallsOfScriptTurn s p (first ∷ []) h old.pending to []
  pub new_is : new ≡ script_turn_stage (script_turn_progress_after section n false) (old.calls ++ first ∷ []) []
  pub vain : ScriptTurnLooksInVain s to p new.calls

-- it was begun before by a call that waits, and what that waits for was taken
pub record ScriptTurnIsEnded (s : Plan) (p : ℕ) (section : List Instruction) (n : ℕ) (h : List Event) (old : ScriptTurnStage) (to : List Event)
    (new : ScriptTurnStage) : Type 0 where
  pub first : Kind
  pub last : Kind
  pub are : AreEventsOfInstruction (script_turn_instruction section n) (first ∷ last ∷ [])
  pub waits : awaited_next first ≡ Some last
  pub taken : to ≡ h ++ event p last ∷ []
  pub new_is : new ≡ script_turn_stage (script_turn_progress_after section n true) (old.calls ++ last ∷ []) []

-- or looked for in vain once more
pub record ScriptTurnIsInVain (s : Plan) (p : ℕ) (h : List Event) (old : ScriptTurnStage) (to : List Event) (new : ScriptTurnStage) : Type 0 where
  pub none : to ≡ h
  pub new_is : new ≡ old
  pub vain : ScriptTurnLooksInVain s h p old.calls

-- a turn of p, from one history and stage to the next: it does its next instruction or looks once for what it waits for; past
-- the closing barrier it does nothing
abbrev pub IsScriptTurn : Plan → ℕ → List Instruction → List Event → ScriptTurnStage → TurnProgress → List Event → ScriptTurnStage → Type 0
IsScriptTurn s p section h old (Next n) to new =
    ScriptTurnIsDone s p section n h old to new ⊎ ScriptTurnIsBegun s p section n h old to new
IsScriptTurn s p section h old (Waits n) to new =
    ScriptTurnIsEnded s p section n h old to new ⊎ ScriptTurnIsInVain s p h old to new
IsScriptTurn s p section h old Passed to new = (to ≡ h) × (new ≡ old)

-- p has its turn, and the others stay where they are
pub record IsScriptTurnAt (s : Plan) (p : ℕ) (h : List Event) (old : List ScriptTurnStage) (to : List Event) (new : List ScriptTurnStage) : Type 0
  where
    pub section : List Instruction
    pub before : ScriptTurnStage
    pub after : ScriptTurnStage
    pub section_is : slice_get s.sections p ≡ Some section
    pub before_is : slice_get old p ≡ Some before
    pub turn : IsScriptTurn s p section h before before.progress to after
    pub others : new ≡ slice_set old p after

-- turns of these processors, one after another, of which the history so far is the one and then the other
abbrev pub AreScriptTurns : Plan → List ℕ → List Event → List ScriptTurnStage → List Event → List ScriptTurnStage → Type 0
AreScriptTurns s [] h old to new = (to ≡ h) × (new ≡ old)
AreScriptTurns s (p ∷ ps) h old to new =
    (half : List Event) × (between : List ScriptTurnStage) × IsScriptTurnAt s p h old half between × AreScriptTurns s ps half between to new

-- the turns of the first rounds, each in its order
abbrev pub script_turns_of : (ℕ → List ℕ) → ℕ → List ℕ
script_turns_of orders zero = []
script_turns_of orders (suc rounds) = script_turns_of orders rounds ++ orders rounds

-- before the first turn
abbrev pub first_script_turn_stages : Plan → List ScriptTurnStage
first_script_turn_stages s = replicate s.processors (script_turn_stage (Next 0) [] [])

-- the open blocks at these stages, of the processors from number p on
abbrev pub script_turn_blocks_from : ℕ → List ScriptTurnStage → List Event
script_turn_blocks_from p [] = []
script_turn_blocks_from p (x ∷ xs) = map (event p) x.pending ++ script_turn_blocks_from (suc p) xs

-- behind the turns processor 0 makes these calls, and then the history goes on with the open blocks, by rising number
pub record ScriptTurnsEndWith (s : Plan) (front : List Event) (stages : List ScriptTurnStage) (kinds : List Kind) (h : List Event) : Type 0
  where
    pub first : ScriptTurnStage
    pub others : List ScriptTurnStage
    pub stages_are : stages ≡ first ∷ others
    pub last : OpenBlock
    pub noted : OpenBlockNotesAll (plan_sizes s) 0 kinds (open_block front first.pending) last
    pub is : h ≡ open_block_handed_in 0 last ++ script_turn_blocks_from 1 others

-- after some rounds in these orders all processors are there; the history is what their turns have made of it, one after
-- another, and then these calls of processor 0 and the open blocks
pub record AreReachedByScriptTurns (s : Plan) (orders : ℕ → List ℕ) (h : List Event) (stages : List ScriptTurnStage) (kinds : List Kind) : Type 0
  where
    pub rounds : ℕ
    pub front : List Event
    pub turns : AreScriptTurns s (script_turns_of orders rounds) [] (first_script_turn_stages s) front stages
    pub ends : ScriptTurnsEndWith s front stages kinds h
