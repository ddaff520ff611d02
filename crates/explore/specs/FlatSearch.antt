-- What a search knows after it has looked at some of the states that it has found.
use Rattle.std.specs.Prelude.{ℕ, ◌≡◌, ◌≢◌, ◌+◌, ◌<◌, ◌≤◌, ◌↔◌, ◌⊎◌, ⊤, Bool, false, IsTrue, MatchOption, Option, Some, None, List, ◌++◌, length, slice_get}
use Rattle.std.specs.Global.{Vec}
use Rattle.base.specs.InOrderOnce.{Has, IsOnce}
use Rattle.journal.specs.declared.event.Event.{Event}
use Rattle.journal.specs.declared.event.Kind.{Kind}
use Rattle.journal.specs.declared.event.Kind.TheVariants.{Ask}
use Rattle.journal.specs.DidEvent.{did, event}
use Rattle.journal.specs.Events.{EventAt}
use Rattle.journal.specs.Races.{Conflict}
use Rattle.lrc_script.specs.Plan.{Plan}
use Rattle.conformance.specs.Follows.{Follows}
use Rattle.explore.specs.declared.prefixes.script_call.ScriptCall.{ScriptCall}
use Rattle.explore.specs.Prefixes.FlatBeginnings.{IsFlatBeginning, IsFlatBeginningHanging}
use Rattle.explore.specs.declared.state.flat_state.FlatState.{FlatState}
use Rattle.explore.specs.declared.search.neighbours.Neighbours.{Neighbours}
use Rattle.explore.specs.declared.search.Met.{Met}
use Rattle.explore.specs.declared.search.Search.{Search}
use Rattle.explore.specs.declared.outcomes.answer.Hanging.{Hanging}
use Rattle.explore.specs.declared.outcomes.answer.Hanging.TheVariants as hanging
use Rattle.explore.specs.declared.outcomes.answer.Verdict.{Verdict}
use Rattle.explore.specs.declared.outcomes.answer.Verdict.TheVariants as verdict
use Rattle.explore.specs.declared.outcomes.answer.ScriptOutcome.{ScriptOutcome}
use Rattle.explore.specs.Explored.{explored_outcome}
use Rattle.explore.specs.NotedOutcomes.{noted_outcomes}
use Rattle.explore.specs.FreeChoice.{IsFreeForChoice}
use Rattle.explore.specs.FoundStates.{AreFoundStates, found_states}
use Rattle.explore.specs.FreeRun.{IsFoundByFreeRun}
use Rattle.explore.specs.Machines.{AreLawfulMachineSteps, MachineKnows}
use Rattle.explore.specs.Nexts.{NextsAreOver}
use Rattle.explore.specs.Racing.{AreRacing}
use Rattle.explore.specs.OutcomeTelling.{AreOutcomeTellingReplies}

-- all that may come next after g has V
abbrev pub FlatSearchFollowsWhole : Plan → (List Event → Type 0) → List Event → Type 0
FlatSearchFollowsWhole s V g = (p : ℕ) (k : Kind) → IsFlatBeginning s (did g p k) → V (did g p k)

-- or what one free event makes of it
pub record FlatSearchFollowsFree (s : Plan) (rows : List (Vec ScriptCall)) (V : List Event → Type 0) (g : List Event) : Type 0 where
  pub processor : ℕ
  pub kind : Kind
  pub free : IsFreeForChoice rows kind
  pub next : IsFlatBeginning s (did g processor kind)
  pub found : V (did g processor kind)

-- events that are passed over
abbrev pub ArePassedOver : (Event → Bool) → List Event → Type 0
ArePassedOver passed es = (i : ℕ) (e : Event) → EventAt es i e → IsTrue (passed e)

-- p's ask for the lock is followed: it may come next, what it makes of g has V, and no later ask for the lock is passed over
pub record IsAskFollowed (s : Plan) (V : List Event → Type 0) (passed : Event → Bool) (g : List Event) (p lock : ℕ) : Type 0 where
  pub next : IsFlatBeginning s (did g p (Ask lock))
  pub found : V (did g p (Ask lock))
  pub rivals : (more : List Event) (q : ℕ) → IsFlatBeginning s (did (g ++ more) q (Ask lock)) → passed (event q (Ask lock)) ≡ false

-- or what some asks make of it: the first event that isn't passed over is one of them
pub record FlatSearchFollowsAsks (s : Plan) (V : List Event → Type 0) (g : List Event) : Type 0 where
  pub passed : Event → Bool
  pub processor : ℕ
  pub lock : ℕ
  pub some : IsAskFollowed s V passed g processor lock
  pub first : (more : List Event) (p : ℕ) (k : Kind) → ArePassedOver passed more → IsFlatBeginning s (did (g ++ more) p k)
      → passed (event p k) ≡ false → (l : ℕ) × (k ≡ Ask l) × IsAskFollowed s V passed g p l

abbrev pub FlatSearchFollows : Plan → List (Vec ScriptCall) → (List Event → Type 0) → List Event → Type 0
FlatSearchFollows s rows V g = FlatSearchFollowsWhole s V g ⊎ (FlatSearchFollowsFree s rows V g ⊎ FlatSearchFollowsAsks s V g)

-- of each of the first n states what comes next is found soon
abbrev pub IsFlatSearchReduced : Plan → List (Vec ScriptCall) → List FlatState → ℕ → Type 0
IsFlatSearchReduced s rows states n = (place : ℕ) (m : FlatState) (g : List Event) → place < n → slice_get states place ≡ Some m
    → MachineKnows s g m → FlatSearchFollows s rows (IsFoundByFreeRun s rows states) g

-- and no two next events conflict
abbrev pub IsFlatSearchQuiet : Plan → List FlatState → ℕ → Type 0
IsFlatSearchQuiet s states n = (place : ℕ) (m : FlatState) (g : List Event) (p q : ℕ) (a b : Kind) → place < n
    → slice_get states place ≡ Some m → MachineKnows s g m → IsFlatBeginning s (did g p a) → IsFlatBeginning s (did g q b)
    → p ≢ q → ¬ Conflict (event p a) (event q b)

-- one of the first n states is whole, and shows this
pub record IsShownByFlatSearch (s : Plan) (states : List FlatState) (n : ℕ) (replies : List (List ℕ)) : Type 0 where
  pub place : ℕ
  pub within : place < n
  pub state : FlatState
  pub at : slice_get states place ≡ Some state
  pub events : List Event
  pub knows : MachineKnows s events state
  pub follows : Follows s events
  pub are : AreOutcomeTellingReplies s state.telling events replies

-- these are what the first n states show, each once
pub record AreFlatSearchOutcomes (s : Plan) (states : List FlatState) (n : ℕ) (outcomes : List (List (List ℕ))) : Type 0 where
  pub each : (replies : List (List ℕ)) → Has outcomes replies ↔ IsShownByFlatSearch s states n replies
  pub once : IsOnce outcomes

-- the state at this place is whole, and shows this
pub record IsShownAtFlatSearchPlace (s : Plan) (states : List FlatState) (replies : List (List ℕ)) (place : ℕ) : Type 0 where
  pub within : place < length states
  pub shows : (m : FlatState) (g : List Event) → slice_get states place ≡ Some m → MachineKnows s g m
      → Follows s g × AreOutcomeTellingReplies s m.telling g replies

-- of each of these outcomes the state at its place shows it
abbrev pub AreFlatSearchPlaces : Plan → List FlatState → List (ScriptOutcome × ℕ) → Type 0
AreFlatSearchPlaces s states outcomes = (e : ScriptOutcome × ℕ) → Has outcomes e → IsShownAtFlatSearchPlace s states (explored_outcome e.0) e.1

-- none of the first n states is a hang
abbrev pub FlatSearchHasNoHang : Plan → List FlatState → ℕ → Type 0
FlatSearchHasNoHang s states n = (place : ℕ) (m : FlatState) (g : List Event) → place < n → slice_get states place ≡ Some m
    → MachineKnows s g m → ¬ IsFlatBeginningHanging s g

-- the state at this place is
pub record FlatSearchHasHang (s : Plan) (states : List FlatState) (place : ℕ) : Type 0 where
  pub within : place < length states
  pub hangs : (m : FlatState) (g : List Event) → slice_get states place ≡ Some m → MachineKnows s g m → IsFlatBeginningHanging s g

-- what is noted of the first n states: the outcomes, with a place of each, and a hang, if there is one
pub record AreFlatSearchNotes (s : Plan) (x : Search) (n : ℕ) : Type 0 where
  pub shown : AreFlatSearchOutcomes s (found_states x.found) n (noted_outcomes x.outcomes.entries)
  pub places : AreFlatSearchPlaces s (found_states x.found) x.outcomes.entries
  pub hang : MatchOption x.hang (FlatSearchHasNoHang s (found_states x.found) n) (FlatSearchHasHang s (found_states x.found))

-- the state at this place, after which nothing may come next, may be noted
pub record MayNoteInFlatSearch (s : Plan) (x : Search) (steps : List (Vec ScriptCall)) (place : ℕ) : Type 0 where
  pub lawful : AreLawfulMachineSteps s steps
  pub found : AreFoundStates s x.found
  pub within : place < length (found_states x.found)
  pub over : (m : FlatState) → slice_get (found_states x.found) place ≡ Some m → NextsAreOver s m
  pub noted : AreFlatSearchNotes s x place

-- the first n states have been looked at, and no two next events of them conflict
pub record FlatSearchedUpTo (s : Plan) (x : Search) (rows : List (Vec ScriptCall)) (n : ℕ) : Type 0 where
  pub found : AreFoundStates s x.found
  pub within : n ≤ length (found_states x.found)
  pub closed : IsFlatSearchReduced s rows (found_states x.found) n
  pub quiet : IsFlatSearchQuiet s (found_states x.found) n
  pub noted : AreFlatSearchNotes s x n

-- the first n states have been looked at, and there is one more
pub record HasMoreToFlatSearch (s : Plan) (x : Search) (steps : List (Vec ScriptCall)) (n : ℕ) : Type 0 where
  pub lawful : AreLawfulMachineSteps s steps
  pub searched : FlatSearchedUpTo s x steps n
  pub more : n < length (found_states x.found)

-- the first n states and one more have been looked at; or two next events of that one conflict
abbrev pub IsFlatSearchedAt : Plan → Search → List (Vec ScriptCall) → ℕ → Option Neighbours → Type 0
IsFlatSearchedAt s x steps n o =
    MatchOption o (FlatSearchedUpTo s x steps (n + 1)) (λ ns. FlatSearchedUpTo s x steps n × AreRacing s x.found steps ns)

-- some states have been looked at, or all
pub record IsFlatSearched (s : Plan) (x : Search) (steps : List (Vec ScriptCall)) (through : Bool) : Type 0 where
  pub some : (n : ℕ) × FlatSearchedUpTo s x steps n
  pub all : IsTrue through → FlatSearchedUpTo s x steps (length (found_states x.found))

-- the verdict is open only if nothing was met and not all states were looked at
abbrev pub IsFlatSearchVerdictOpen : Option Met → Bool → Verdict → Type 0
IsFlatSearchVerdictOpen o through verdict.RaceFree = o ≡ None
IsFlatSearchVerdictOpen o through (verdict.Racy racy) = ⊤
IsFlatSearchVerdictOpen o through verdict.Undecided = (o ≡ None) × (through ≡ false)

-- whether it hangs is open only if not all states were looked at
abbrev pub IsFlatSearchHangingOpen : Bool → Hanging → Type 0
IsFlatSearchHangingOpen through hanging.Undecided = through ≡ false
IsFlatSearchHangingOpen through _ = ⊤
