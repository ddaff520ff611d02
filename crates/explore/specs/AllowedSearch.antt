-- What a search by the rules of the memory alone knows.
use Rattle.std.specs.Prelude.{ℕ, ◌≡◌, ◌++◌, ◌⊎◌, List, [], ◌∷◌, length, map}
use Rattle.std.specs.Global.{Vec}
use Rattle.base.specs.InOrderOnce.{Has, InOrder, IsOnce}
use Rattle.journal.specs.declared.event.Event.{Event}
use Rattle.lrc_script.specs.Plan.{Plan}
use Rattle.conformance.specs.Follows.{Follows}
use Rattle.explore.specs.declared.rules.beginning.AllowedBeginning.{AllowedBeginning}
use Rattle.explore.specs.declared.rules.search.AllowedSearch.{AllowedSearch}
use Rattle.explore.specs.declared.outcomes.telling.Detail.{Detail}
use Rattle.explore.specs.AllowedRuns.{IsAllowedRunBeginning, IsAllowedRunOutcome, IsAllowedRun, IsAllowedRunShowing}
use Rattle.explore.specs.AllowedBeginnings.{AreAllowedBeginningsPutBehind, TellsAllowedBeginning, allowed_beginning_events}
use Rattle.explore.specs.declared.outcomes.answer.ScriptOutcome.{ScriptOutcome}
use Rattle.explore.specs.Explored.{explored_outcome}
use Rattle.explore.specs.NotedOutcomes.{noted_outcomes}
use Rattle.explore.specs.OutcomeTelling.{AreOutcomeTellingReplies, outcome_telling_of_script}

-- some run that begins so shows this, told by this detail
pub record AllowedSearchCanShow (s : Plan) (d : Detail) (g : List Event) (replies : List (List ℕ)) : Type 0 where
  pub more : List Event
  pub run : IsAllowedRun s (g ++ more)
  pub are : AreOutcomeTellingReplies s (outcome_telling_of_script s d) (g ++ more) replies

-- one list begins the other
abbrev pub IsAllowedSearchFront : List Event → List Event → Type 0
IsAllowedSearchFront g h = (more : List Event) × (h ≡ g ++ more)

-- what has been seen is there once, no pending list begins it, and no pending list begins another
pub record AreAllowedSearchListsApart (seen pending : List (List Event)) : Type 0 where
  pub once : IsOnce seen
  pub no_front : (g h : List Event) → Has pending g → Has seen h → ¬ IsAllowedSearchFront g h
  pub apart : InOrder (λ g h. (¬ IsAllowedSearchFront g h) × (¬ IsAllowedSearchFront h g)) pending

-- what was found
abbrev pub allowed_search_found : AllowedSearch → List (List (List ℕ))
allowed_search_found x = noted_outcomes x.outcomes.entries

-- of each of these outcomes its run is allowed, and shows it
abbrev pub AreAllowedSearchRuns : Plan → Detail → List (ScriptOutcome × Vec Event) → Type 0
AreAllowedSearchRuns s d outcomes = (e : ScriptOutcome × Vec Event) → Has outcomes e → IsAllowedRunShowing s d e.1.items (explored_outcome e.0)

-- this was found, or can still be by an pending beginning
abbrev pub IsNotLostByAllowedSearch : Plan → Detail → AllowedSearch → List (List ℕ) → Type 0
IsNotLostByAllowedSearch s d x replies = Has (allowed_search_found x) replies
    ⊎ ((b : AllowedBeginning) × Has x.pending.items b × AllowedSearchCanShow s d (allowed_beginning_events b) replies)

-- so many beginnings have been looked at: what was found is allowed, and nothing that is allowed is lost
pub record IsAllowedSearched (s : Plan) (d : Detail) (n : ℕ) (x : AllowedSearch) : Type 0 where
  pub seen : List (List Event)
  pub many : length seen ≡ n
  pub seen_each : (g : List Event) → Has seen g → IsAllowedRunBeginning s g
  pub apart : AreAllowedSearchListsApart seen (map allowed_beginning_events x.pending.items)
  pub known : (b : AllowedBeginning) → Has x.pending.items b → TellsAllowedBeginning s b
  pub runs : AreAllowedSearchRuns s d x.outcomes.entries
  pub once : IsOnce (allowed_search_found x)
  pub none_lost : (replies : List (List ℕ)) → IsAllowedRunOutcome s d replies → IsNotLostByAllowedSearch s d x replies

-- after the beginning g, which isn't whole, each of these events is to be looked at, and whatever its runs show is shown after one
pub record IsAllowedSearchFollowed (s : Plan) (d : Detail) (g : List Event) (x y : AllowedSearch) : Type 0 where
  pub events : List Event
  pub events_once : IsOnce events
  pub lengthened : AreAllowedBeginningsPutBehind s g events x.pending.items y.pending.items
  pub outcomes : y.outcomes ≡ x.outcomes
  pub none_lost : (replies : List (List ℕ)) → ¬ Follows s g → AllowedSearchCanShow s d g replies
      → (e : Event) × Has events e × AllowedSearchCanShow s d (g ++ e ∷ []) replies

-- the beginning g has been looked at: what its runs show was found, or can still be after one of these events
pub record IsAllowedSearchStep (s : Plan) (d : Detail) (g : List Event) (x y : AllowedSearch) : Type 0 where
  pub events : List Event
  pub events_once : IsOnce events
  pub lengthened : AreAllowedBeginningsPutBehind s g events x.pending.items y.pending.items
  pub keeps : (replies : List (List ℕ)) → Has (allowed_search_found x) replies → Has (allowed_search_found y) replies
  pub each : (replies : List (List ℕ)) → Has (allowed_search_found y) replies
      → Has (allowed_search_found x) replies ⊎ (IsAllowedRun s g × AreOutcomeTellingReplies s (outcome_telling_of_script s d) g replies)
  pub runs : AreAllowedSearchRuns s d x.outcomes.entries → AreAllowedSearchRuns s d y.outcomes.entries
  pub once : IsOnce (allowed_search_found x) → IsOnce (allowed_search_found y)
  pub none_lost : (replies : List (List ℕ)) → AllowedSearchCanShow s d g replies → Has (allowed_search_found y) replies
      ⊎ ((e : Event) × Has events e × AllowedSearchCanShow s d (g ++ e ∷ []) replies)
