-- Which events are followed: one that commutes with all that other processors may do, the asks of a persistent set, those for
-- one lock, or all.
use Rattle.std.specs.Prelude.{ℕ, ◌≡◌, ◌<◌, ◌⊎◌, Bool, true, false, IsTrue, Option, Some, None, List, [], length, slice_get, slice_index, slice_index_or}
use Rattle.std.specs.Global.{Vec}
use Rattle.journal.specs.declared.event.Event.{Event}
use Rattle.journal.specs.declared.event.Kind.{Kind}
use Rattle.journal.specs.declared.event.Kind.TheVariants.{Ask, Set}
use Rattle.journal.specs.Events.{event_address}
use Rattle.lrc_script.specs.Plan.{Plan}
use Rattle.explore.specs.declared.prefixes.script_call.ScriptCall.{ScriptCall}
use Rattle.explore.specs.declared.prefixes.script_call.ScriptCall.TheVariants.{Call}
use Rattle.explore.specs.declared.text.facts.NumberedCalls.{NumberedCalls}
use Rattle.explore.specs.declared.text.facts.NumberedCalls.TheVariants.{Asks, Sets}
use Rattle.explore.specs.declared.text.facts.TextFacts.{TextFacts}
use Rattle.explore.specs.declared.state.flat_state.FlatState.{FlatState}
use Rattle.explore.specs.Machines.{AreLawfulMachineSteps, MachineKnows}
use Rattle.explore.specs.PersistentSets.{AsksInPersistentSet, IsPersistentMember, IsPersistentSet, IsYetToCall}
use Rattle.explore.specs.TextGuards.{AreGuardedByText, IsGuardedByText}

abbrev pub is_ask_in_free_choice : Kind → Bool
is_ask_in_free_choice (Ask l) = true
is_ask_in_free_choice _ = false

-- no ask, and no access but of a guarded word
pub record IsFreeForChoice (rows : List (Vec ScriptCall)) (k : Kind) : Type 0 where
  pub no_ask : is_ask_in_free_choice k ≡ false
  pub guarded : (w : ℕ) → event_address k ≡ Some w → IsGuardedByText rows w

-- the same, if these words are known to be guarded
pub record IsFreeForChoiceByWords (words : List Bool) (k : Kind) : Type 0 where
  pub no_ask : is_ask_in_free_choice k ≡ false
  pub guarded : (w : ℕ) → event_address k ≡ Some w → IsTrue (slice_index_or words w false)

-- the call of this number
abbrev pub free_choice_numbered_call : NumberedCalls → ℕ → Kind
free_choice_numbered_call Asks n = Ask n
free_choice_numbered_call Sets n = Set n

-- of each number, behind how many of the row's steps none makes the call
abbrev pub AreFreeChoiceEnds : NumberedCalls → List ScriptCall → List ℕ → Type 0
AreFreeChoiceEnds calls row ends = (i n : ℕ) → slice_get row i ≡ Some (Call (free_choice_numbered_call calls n)) → i < slice_index_or ends n 0

-- the same of each row
abbrev pub AreFreeChoiceEndsOfAll : NumberedCalls → List (Vec ScriptCall) → List (List ℕ) → Type 0
AreFreeChoiceEndsOfAll calls rows ends = (p : ℕ) (row : Vec ScriptCall) → slice_get rows p ≡ Some row
    → AreFreeChoiceEnds calls row.items (slice_index_or ends p [])

-- the step names no lock and no flag but the 32 that there are of each
abbrev pub IsFreeChoiceNumberSmall : ScriptCall → Type 0
IsFreeChoiceNumberSmall (Call (Ask l)) = l < 32
IsFreeChoiceNumberSmall (Call (Set f)) = f < 32
IsFreeChoiceNumberSmall _ = Unit {0}

abbrev pub AreFreeChoiceNumbersSmall : List ScriptCall → Type 0
AreFreeChoiceNumbersSmall row = (i : ℕ) (step : ScriptCall) → slice_get row i ≡ Some step → IsFreeChoiceNumberSmall step

-- what the text shows of events to come
pub record AreFreeChoiceTextFacts (rows : List (Vec ScriptCall)) (facts : TextFacts) : Type 0 where
  pub guarded : AreGuardedByText rows facts.guarded.items
  pub asks : AreFreeChoiceEndsOfAll Asks rows facts.ask_ends
  pub sets : AreFreeChoiceEndsOfAll Sets rows facts.set_ends

-- the machine has done these events of a lawful script, of whose steps these facts are
pub record IsFreeChoiceGiven (s : Plan) (rows : List (Vec ScriptCall)) (facts : TextFacts) (m : FlatState) (g : List Event) : Type 0 where
  pub lawful : AreLawfulMachineSteps s rows
  pub told : AreFreeChoiceTextFacts rows facts
  pub knows : MachineKnows s g m

-- somebody may ask for the lock next, and so may all that have yet to ask for it, having done so much
pub record IsFreeChoiceAskedByAll (done : List ℕ) (nexts : List (Option Kind)) (ends : List (List ℕ)) (lock : ℕ) : Type 0 where
  pub processor : ℕ
  pub asks : slice_index_or nexts processor None ≡ Some (Ask lock)
  pub others : (p : ℕ) → slice_index done p < slice_index_or (slice_index_or ends p []) lock 0
      → slice_index_or nexts p None ≡ Some (Ask lock)

-- one event that is free is chosen of these
pub record IsFreeChoiceOfOne (rows : List (Vec ScriptCall)) (nexts chosen : List (Option Kind)) : Type 0 where
  pub processor : ℕ
  pub kind : Kind
  pub at : slice_index_or nexts processor None ≡ Some kind
  pub chosen_at : slice_index_or chosen processor None ≡ Some kind
  pub free : IsFreeForChoice rows kind

-- a persistent set of which a member may ask for a free lock next
pub record HasPersistentAsks (rows : List (Vec ScriptCall)) (g : List Event) (nexts : List (Option Kind)) (members : List Bool) : Type 0 where
  pub set : IsPersistentSet rows g nexts members
  pub processor : ℕ
  pub lock : ℕ
  pub asks : AsksInPersistentSet g nexts members processor lock

-- or the asks for free locks by its members
pub record IsPersistentChoice (rows : List (Vec ScriptCall)) (g : List Event) (nexts chosen : List (Option Kind)) : Type 0 where
  pub members : List Bool
  pub has : HasPersistentAsks rows g nexts members
  pub all : (p l : ℕ) → p < length rows → AsksInPersistentSet g nexts members p l → slice_index_or chosen p None ≡ Some (Ask l)

-- nobody will ever ask for a free lock: all processors are in a persistent set, and none of them may do so next
pub record IsHopeless (rows : List (Vec ScriptCall)) (g : List Event) (nexts : List (Option Kind)) : Type 0 where
  pub members : List Bool
  pub everybody : (p : ℕ) → p < length rows → IsPersistentMember members p
  pub set : IsPersistentSet rows g nexts members
  pub none : (p l : ℕ) → p < length rows → ¬ AsksInPersistentSet g nexts members p l

-- or all asks for one lock, if that is so
pub record AreHopelessAsks (rows : List (Vec ScriptCall)) (g : List Event) (nexts chosen : List (Option Kind)) : Type 0 where
  pub hopeless : IsHopeless rows g nexts
  pub processor : ℕ
  pub lock : ℕ
  pub asks : slice_index_or nexts processor None ≡ Some (Ask lock)
  pub all : (p : ℕ) → slice_index_or nexts p None ≡ Some (Ask lock) → slice_index_or chosen p None ≡ Some (Ask lock)

-- or all asks for one lock, if nobody else will ask for it
pub record AreFreeChoiceAsks (rows : List (Vec ScriptCall)) (g : List Event) (nexts chosen : List (Option Kind)) : Type 0 where
  pub lock : ℕ
  pub processor : ℕ
  pub asks : slice_index_or nexts processor None ≡ Some (Ask lock)
  pub all : (p : ℕ) → slice_index_or nexts p None ≡ Some (Ask lock) → slice_index_or chosen p None ≡ Some (Ask lock)
  pub others : (p : ℕ) → IsYetToCall rows g p (Ask lock) → slice_index_or nexts p None ≡ Some (Ask lock)

-- or all are, after g
abbrev pub IsFreeChoice : List (Vec ScriptCall) → List Event → List (Option Kind) → List (Option Kind) → Type 0
IsFreeChoice rows g nexts chosen = (chosen ≡ nexts)
    ⊎ (IsFreeChoiceOfOne rows nexts chosen ⊎ (IsPersistentChoice rows g nexts chosen
    ⊎ (AreHopelessAsks rows g nexts chosen ⊎ AreFreeChoiceAsks rows g nexts chosen)))

-- what is chosen is among these
abbrev pub AreFreeChoiceAmongNexts : List (Option Kind) → List (Option Kind) → Type 0
AreFreeChoiceAmongNexts nexts chosen = (p : ℕ) (k : Kind) → slice_index_or chosen p None ≡ Some k → slice_index_or nexts p None ≡ Some k
