-- How a search on one flat memory ended.
use Rattle.std.specs.Prelude.{ℕ, ◌≡◌, ◌+◌, ◌<◌, ◌≤◌, ⊤, false, IsTrue, MatchOption, Option, None, List, length}
use Rattle.std.specs.Global.{Vec}
use Rattle.base.specs.Prelude.{most_processors}
use Rattle.journal.specs.declared.event.Event.{Event}
use Rattle.lrc_script.specs.Plan.{Plan}
use Rattle.explore.specs.declared.outcomes.telling.Detail.{Detail}
use Rattle.explore.specs.declared.prefixes.script_call.ScriptCall.{ScriptCall}
use Rattle.explore.specs.declared.search.Met.{Met}
use Rattle.explore.specs.declared.search.Met.TheVariants.{Ending, Conflict}
use Rattle.explore.specs.declared.search.Search.{Search}
use Rattle.explore.specs.declared.search.SearchEnd.{SearchEnd}
use Rattle.explore.specs.declared.outcomes.showing.Showing.{Showing}
use Rattle.explore.specs.declared.outcomes.showing.Showing.TheVariants.{Undecided}
use Rattle.explore.specs.FlatSearch.{FlatSearchedUpTo, IsFlatSearched}
use Rattle.explore.specs.FoundStates.{found_states}
use Rattle.explore.specs.OutcomeTelling.{outcome_telling_of_script}
use Rattle.explore.specs.Racing.{AreRacing}
use Rattle.explore.specs.SearchGoals.{IsGoalMetAt, IsGoalUnmet}
use Rattle.explore.specs.StatesOfScript.{HasStatesOfScript}

-- what ended a search: a state that is what was looked for, or two next events that conflict
abbrev pub IsMetByFlatSearch : Plan → Search → List (Vec ScriptCall) → (List Event → Type 0) → Met → Type 0
IsMetByFlatSearch s x steps P (Ending place) = IsGoalMetAt s P (found_states x.found) place
IsMetByFlatSearch s x steps P (Conflict neighbours) = AreRacing s x.found steps neighbours

-- the first n states have been looked at, and none of them is what is looked for
pub record FlatSearchedWithout (s : Plan) (x : Search) (steps : List (Vec ScriptCall)) (P : List Event → Type 0) (n : ℕ) : Type 0 where
  pub searched : FlatSearchedUpTo s x steps n
  pub unmet : IsGoalUnmet s P (found_states x.found) n

-- some states have been looked at, and all if they are no more than this; or this was met
pub record IsFlatSearchedThrough (s : Plan) (x : Search) (steps : List (Vec ScriptCall)) (P : List Event → Type 0) (most : ℕ) (o : Option Met)
    : Type 0 where
  pub some : (n : ℕ) × FlatSearchedUpTo s x steps n
  pub end :
      MatchOption o (length (found_states x.found) ≤ most → FlatSearchedWithout s x steps P (length (found_states x.found)))
      (IsMetByFlatSearch s x steps P)

-- some states were looked at, or all, of which none is what is looked for; or this was met; the script has as many states as were found, and
-- these are few; and they are more than those to be looked at if nothing was met and not all were looked at
pub record IsFlatSearchEnd (s : Plan) (x : Search) (steps : List (Vec ScriptCall)) (P : List Event → Type 0) (most : ℕ) (end : SearchEnd) : Type 0 where
  pub searched : IsFlatSearched s x steps end.through
  pub unmet : IsTrue end.through → IsGoalUnmet s P (found_states x.found) (length (found_states x.found))
  pub met : MatchOption end.met ⊤ (IsMetByFlatSearch s x steps P)
  pub states : (d : Detail) → x.found.first.telling ≡ outcome_telling_of_script s d → HasStatesOfScript s d end.states
  pub few : end.states ≤ most + most_processors
  pub past : end.met ≡ None → end.through ≡ false → most < end.states

-- whether a run ends with some words is open only if nothing was met and not all states were looked at
abbrev pub IsFlatSearchShowingOpen : SearchEnd → Showing → Type 0
IsFlatSearchShowingOpen end Undecided = (end.met ≡ None) × (end.through ≡ false)
IsFlatSearchShowingOpen end _ = ⊤
