-- What is answered of a text whose schedules are to be looked at.
use Rattle.std.specs.Prelude.{ℕ, ◌≡◌, ◌≢◌, ◌⊎◌, List}
use Rattle.lrc_script.specs.declared.fault.ScriptFault.{ScriptFault}
use Rattle.lrc_script.specs.declared.fault.ScriptFault.TheVariants as script_fault
use Rattle.lrc_script.specs.Lawful.{IsLawful}
use Rattle.lrc_script.specs.ScriptFaults.{IsScriptFault}
use Rattle.lrc_script.specs.Plan.{Plan}
use Rattle.lrc_script.specs.ScriptLines.{text}
use Rattle.explore.specs.declared.outcomes.answer.Explored.{Explored}
use Rattle.explore.specs.declared.outcomes.telling.Detail.TheVariants as detail
use Rattle.explore.specs.Explored.{IsExplored}
use Rattle.c_library.specs.declared.call_fault.CallFault.{CallFault}
use Rattle.c_library.specs.declared.call_fault.CallFault.TheVariants.{BadScript, NoMemory}
use Rattle.c_library.specs.declared.told_exploration.ToldExploration.{ToldExploration}
use Rattle.c_library.specs.declared.unexplored.ToldScriptFault.{ToldScriptFault}
use Rattle.c_library.specs.declared.unexplored.Unexplored.{Unexplored}
use Rattle.c_library.specs.declared.unexplored.Unexplored.TheVariants as unexplored
use Rattle.c_library.specs.ToldExploration.{told_exploration}

-- the bytes are the text of this lawful script
pub record IsGivenTextOfScript (bytes : List ℕ) (s : Plan) : Type 0 where
  pub lawful : IsLawful s
  pub is : bytes ≡ text s

-- they are the text of one, and this is what is told of its schedules, if so many states were asked for
pub record IsGivenTextTold (bytes : List ℕ) (most : ℕ) (told : ToldExploration) : Type 0 where
  pub script : Plan
  pub text : IsGivenTextOfScript bytes script
  pub found : Explored
  pub explored : IsExplored script detail.Words most found
  pub is : told ≡ told_exploration found

-- they are the text of none
abbrev pub HasGivenTextNoScript : List ℕ → Type 0
HasGivenTextNoScript bytes = (s : Plan) → ¬ IsGivenTextOfScript bytes s

-- a fault's number: its place in the order of the tests of a line, from 1
abbrev pub given_text_fault_number : ScriptFault → ℕ
given_text_fault_number script_fault.Truncated = 1
given_text_fault_number script_fault.BadLine = 2
given_text_fault_number script_fault.BadNumber = 3
given_text_fault_number script_fault.BadSize = 4
given_text_fault_number script_fault.OutOfRange = 5
given_text_fault_number script_fault.BadLock = 6
given_text_fault_number script_fault.BadFlag = 7
given_text_fault_number script_fault.AlreadyHeld = 8
given_text_fault_number script_fault.NotHeld = 9
given_text_fault_number script_fault.TooLong = 10
given_text_fault_number script_fault.Uneven = 11
given_text_fault_number script_fault.NoMemory = 12

-- the fault of a line, as C is told it
abbrev pub given_text_fault_told : ℕ → ScriptFault → ToldScriptFault
given_text_fault_told line fault = record { line = line; kind = given_text_fault_number fault }

-- the text is no lawful script's, since this line of it has this fault
pub record IsGivenTextFault (bytes : List ℕ) (line : ℕ) (fault : ScriptFault) : Type 0 where
  pub none : HasGivenTextNoScript bytes
  pub is : IsScriptFault bytes line fault
  pub no_memory : fault ≢ script_fault.NoMemory

-- the text is no lawful script's, and this is what is told of its fault
pub record IsGivenTextFaultTold (bytes : List ℕ) (told : ToldScriptFault) : Type 0 where
  pub line : ℕ
  pub fault : ScriptFault
  pub due : IsGivenTextFault bytes line fault
  pub is : told ≡ given_text_fault_told line fault

-- memory may have run out at a line before which there is no fault, or when the whole script was read
abbrev pub GivenTextMayLackMemory : List ℕ → Type 0
GivenTextMayLackMemory bytes = ((line : ℕ) × IsScriptFault bytes line script_fault.NoMemory) ⊎ ((s : Plan) × IsGivenTextOfScript bytes s)

-- why the schedules of a text weren't looked at
abbrev pub IsGivenTextUnexplored : List ℕ → Unexplored → Type 0
IsGivenTextUnexplored bytes (unexplored.NoScript line fault) = IsGivenTextFault bytes line fault
IsGivenTextUnexplored bytes unexplored.NoMemory = GivenTextMayLackMemory bytes

-- the fault of the call is that of the first thing that is so
abbrev pub IsGivenTextCallFault : List ℕ → CallFault → Type 0
IsGivenTextCallFault bytes BadScript = HasGivenTextNoScript bytes
IsGivenTextCallFault bytes NoMemory = GivenTextMayLackMemory bytes
IsGivenTextCallFault bytes _ = ⊥
