-- A script's run on one flat memory, as a machine has it.
use Rattle.std.specs.Prelude.{ℕ, ◌≡◌, ◌<◌, ◌↔◌, false, List, [], ◌∷◌, length, map, replicate, slice_index}
use Rattle.std.specs.Global.{Vec}
use Rattle.journal.specs.declared.event.Event.{Event}
use Rattle.journal.specs.declared.event.Kind.{Kind}
use Rattle.journal.specs.declared.event.Kind.TheVariants.{Load}
use Rattle.journal.specs.DidEvent.{did, event}
use Rattle.journal.specs.ReplayMemory.{memory_after}
use Rattle.journal.specs.WellFormed.{WellFormedKindInRange, WellFormedNext}
use Rattle.lrc_script.specs.Plan.{Plan}
use Rattle.lrc_script.specs.Lawful.{plan_addresses, IsLawful}
use Rattle.conformance.specs.Follows.{calls_of, is_fetch, plan_sizes}
use Rattle.explore.specs.declared.prefixes.script_call.ScriptCall.{ScriptCall}
use Rattle.explore.specs.declared.prefixes.script_call.ScriptCall.TheVariants.{Call, Adds}
use Rattle.explore.specs.declared.state.flat_state.FlatState.{FlatState}
use Rattle.explore.specs.Prefixes.FlatBeginnings.{IsFlatBeginning}
use Rattle.explore.specs.Prefixes.ScriptCalls.{AreScriptCallRows}
use Rattle.explore.specs.OutcomeTelling.{AreOutcomeTellingKept}
use Rattle.explore.specs.KeptWaiting.{IsLikeKeptWaiting, TellsKeptWaiting}

-- what vectors have, without where they lie in memory
abbrev pub machine_rows : List (Vec ℕ) → List (List ℕ)
machine_rows vs = map (λ (v : Vec ℕ). v.items) vs

-- the last of these words, or this one
abbrev pub machine_last_or : ℕ → List ℕ → ℕ
machine_last_or word [] = word
machine_last_or word (w ∷ words) = machine_last_or w words

-- the machine has done these events of the script
pub record MachineKnows (s : Plan) (g : List Event) (m : FlatState) : Type 0 where
  pub beginning : IsFlatBeginning s g
  pub long : length m.done ≡ 16
  pub done : (p : ℕ) → p < 16 → slice_index m.done p ≡ length (calls_of g p)
  pub shown : m.telling.shown ≡ length s.shown
  pub replies : AreOutcomeTellingKept s m.telling g (machine_rows m.replies.items)
  pub memory : m.memory.items ≡ memory_after (replicate (plan_addresses s) 0) g
  pub waiting : TellsKeptWaiting g m.waiting

-- two machines are in the same state
pub record MachinesInSameState (m n : FlatState) : Type 0 where
  pub telling : n.telling ≡ m.telling
  pub done : n.done ≡ m.done
  pub replies : machine_rows n.replies.items ≡ machine_rows m.replies.items
  pub memory : n.memory.items ≡ m.memory.items
  pub waiting : IsLikeKeptWaiting m.waiting n.waiting

-- the numbers of the step are the script's, and it is no fetch
abbrev pub IsProperMachineStep : Plan → ScriptCall → Type 0
IsProperMachineStep s (Call k) = WellFormedKindInRange (plan_sizes s) k × (is_fetch k ≡ false)
IsProperMachineStep s (Adds a v) = a < plan_addresses s

-- of the step the memory has the word, if it loads one
abbrev pub MachineReadsWithin : ℕ → ScriptCall → Type 0
MachineReadsWithin size (Call (Load a v)) = a < size
MachineReadsWithin size _ = Unit {0}

-- p has made all its calls
abbrev pub HasMachineNoNextCall : Plan → FlatState → ℕ → Type 0
HasMachineNoNextCall s m p = (g : List Event) (k : Kind) → MachineKnows s g m → ¬ IsFlatBeginning s (did g p k)

-- p makes this call next, as soon as it may follow
pub record IsMachineNextCall (s : Plan) (m : FlatState) (p : ℕ) (c : Kind) : Type 0 where
  pub in_range : WellFormedKindInRange (plan_sizes s) c
  pub next : (g : List Event) (k : Kind) → MachineKnows s g m → IsFlatBeginning s (did g p k) ↔ (WellFormedNext (plan_sizes s) g (event p c) × (c ≡ k))

-- these are the steps of a lawful script
pub record AreLawfulMachineSteps (s : Plan) (steps : List (Vec ScriptCall)) : Type 0 where
  pub lawful : IsLawful s
  pub are : AreScriptCallRows s steps

-- the machine has done some events of a lawful script, whose steps are these
pub record IsMachineRunning (m : FlatState) (steps : List (Vec ScriptCall)) : Type 0 where
  pub plan : Plan
  pub lawful : AreLawfulMachineSteps plan steps
  pub events : List Event
  pub knows : MachineKnows plan events m

-- p may do this after some events of a lawful script, whose steps are these
pub record MachineMayDo (m : FlatState) (steps : List (Vec ScriptCall)) (p : ℕ) (k : Kind) : Type 0 where
  pub plan : Plan
  pub lawful : AreLawfulMachineSteps plan steps
  pub events : List Event
  pub knows : MachineKnows plan events m
  pub next : IsFlatBeginning plan (did events p k)
