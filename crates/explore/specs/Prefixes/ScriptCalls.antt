-- What a script says of each call of a processor, and which call comes next.
use Rattle.std.specs.Prelude.{ℕ, ◌≡◌, ◌+◌, ◌%◌, ◌^◌, ◌==◌, cond, fold, false, Some, List, [], ◌∷◌, ◌++◌, length, slice_get}
use Rattle.std.specs.Global.{Vec}
use Rattle.journal.specs.declared.event.Event.{Event}
use Rattle.journal.specs.declared.event.Kind.{Kind}
use Rattle.journal.specs.declared.event.Kind.TheVariants as kind
use Rattle.lrc_script.specs.declared.script.Instruction.{Instruction}
use Rattle.lrc_script.specs.declared.script.Instruction.TheVariants.{Load, Store, Add, Acquire, Release, Barrier, Set, Await, Cut}
use Rattle.lrc_script.specs.Plan.{Plan}
use Rattle.conformance.specs.Follows.{calls_of, is_fetch}
use Rattle.explore.specs.declared.prefixes.script_call.ScriptCall.{ScriptCall}
use Rattle.explore.specs.declared.prefixes.script_call.ScriptCall.TheVariants.{Call, Adds}

-- what an instruction says of its calls
abbrev pub script_calls_of_one : Instruction → List ScriptCall
script_calls_of_one (Load a) = Call (kind.Load a 0) ∷ []
script_calls_of_one (Store a v) = Call (kind.Store a v) ∷ []
script_calls_of_one (Add a v) = Call (kind.Load a 0) ∷ Adds a v ∷ []
script_calls_of_one (Acquire l) = Call (kind.Ask l) ∷ Call (kind.Acquire l) ∷ []
script_calls_of_one (Release l) = Call (kind.Release l) ∷ []
script_calls_of_one Barrier = Call kind.Arrive ∷ Call kind.Depart ∷ []
script_calls_of_one (Set f) = Call (kind.Set f) ∷ []
script_calls_of_one (Await f) = Call (kind.Watch f) ∷ Call (kind.Await f) ∷ []
script_calls_of_one Cut = []

-- what instructions do, in order
abbrev pub script_calls_of_all : List Instruction → List ScriptCall
script_calls_of_all [] = []
script_calls_of_all (i ∷ is) = script_calls_of_one i ++ script_calls_of_all is

-- and loads of these addresses
abbrev pub script_call_loads : List ℕ → List ScriptCall
script_call_loads [] = []
script_call_loads (a ∷ shown) = Call (kind.Load a 0) ∷ script_call_loads shown

-- all that a processor calls: its section, the closing barrier, and loads of what it shows
abbrev pub script_calls_of_section : List Instruction → List ℕ → List ScriptCall
script_calls_of_section section shown = script_calls_of_all section ++ Call kind.Arrive ∷ Call kind.Depart ∷ script_call_loads shown

-- what processor p shows at the end
abbrev pub script_calls_shown_by : Plan → ℕ → List ℕ
script_calls_shown_by s p = cond (p == 0) s.shown []

-- of each section its steps
pub record AreScriptCallRows (s : Plan) (rows : List (Vec ScriptCall)) : Type 0 where
  pub long : length rows ≡ length s.sections
  pub each : (p : ℕ) (section : List Instruction) (row : Vec ScriptCall) → slice_get s.sections p ≡ Some section
      → slice_get rows p ≡ Some row → row.items ≡ script_calls_of_section section (script_calls_shown_by s p)

-- the call without the reply of a load
abbrev pub replyless_script_call : Kind → Kind
replyless_script_call (kind.Load a v) = kind.Load a 0
replyless_script_call k = k

-- the reply that was given last
abbrev pub script_call_reply_after : ℕ → Kind → ℕ
script_call_reply_after reply (kind.Load a v) = v
script_call_reply_after reply _ = reply

-- after these calls; 0 if no load is among them
abbrev pub last_reply_of_script_calls : List Kind → ℕ
last_reply_of_script_calls kinds = fold script_call_reply_after 0 kinds

-- the call is as the step says, if this reply was given last
abbrev pub FitsScriptCall : ℕ → ScriptCall → Kind → Type 0
FitsScriptCall reply (Call c) k = replyless_script_call k ≡ replyless_script_call c
FitsScriptCall reply (Adds a v) k = k ≡ kind.Store a ((reply + v) % 2 ^ 32)

-- after these calls the steps say this one
pub record IsScriptCallNext (steps : List ScriptCall) (kinds : List Kind) (k : Kind) : Type 0 where
  pub step : ScriptCall
  pub at : slice_get steps (length kinds) ≡ Some step
  pub is : FitsScriptCall (last_reply_of_script_calls kinds) step k

-- p's section says that it calls this next; a fetch is no call
pub record ScriptCallsNext (s : Plan) (g : List Event) (p : ℕ) (k : Kind) : Type 0 where
  pub call : is_fetch k ≡ false
  pub next : (section : List Instruction) → slice_get s.sections p ≡ Some section
      → IsScriptCallNext (script_calls_of_section section (script_calls_shown_by s p)) (calls_of g p) k
