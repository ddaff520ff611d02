-- What a search by the rules looks for, and how it ended.
use Rattle.std.specs.Prelude.{ℕ, ◌≡◌, ◌↔◌, ◌+◌, ◌≤◌, ⊤, [], List}
use Rattle.base.specs.InOrderOnce.{Has}
use Rattle.journal.specs.declared.event.Event.{Event}
use Rattle.journal.specs.declared.event.Kind.{Kind}
use Rattle.journal.specs.declared.event.Kind.TheVariants.{Load}
use Rattle.lrc_script.specs.Plan.{Plan}
use Rattle.explore.specs.declared.rules.search.AllowedEnd.{AllowedEnd}
use Rattle.explore.specs.declared.rules.search.AllowedEnd.TheVariants.{Ending, Through, GivenUp}
use Rattle.explore.specs.declared.rules.search.AllowedLooked.{AllowedLooked}
use Rattle.explore.specs.declared.rules.search.AllowedSearch.{AllowedSearch}
use Rattle.explore.specs.declared.goal.Goal.{Goal}
use Rattle.explore.specs.declared.goal.Goal.TheVariants.{All, Until}
use Rattle.explore.specs.declared.outcomes.telling.Detail.{Detail}
use Rattle.explore.specs.AllowedBeginnings.{TellsAllowedBeginning, allowed_beginning_events}
use Rattle.explore.specs.AllowedRuns.{HasAllowedRunBeginnings}
use Rattle.explore.specs.AllowedSearch.{IsAllowedSearched, allowed_search_found}
use Rattle.explore.specs.AllowedUntil.{IsAllowedUntilRun}
use Rattle.explore.specs.OutcomeTelling.{AreOutcomeTellingReplies, outcome_telling_of_script}

-- each of these words is what these calls load at its address, and nothing else
abbrev pub AreAllowedUntilLoads : List (ℕ × ℕ) → List Kind → Type 0
AreAllowedUntilLoads words calls = (address word w : ℕ) → Has words (address, word) → Has calls (Load address w) ↔ (w ≡ word)

-- by the rules: no run, or one that ends with these words
abbrev pub IsAllowedRunOfGoal : Plan → Goal → List Event → Type 0
IsAllowedRunOfGoal s All = λ g. ⊥
IsAllowedRunOfGoal s (Until words) = IsAllowedUntilRun s words.now

-- no run of which the outcome was found is one that is looked for
abbrev pub AllowedSearchFoundNone : Plan → Detail → Goal → AllowedSearch → Type 0
AllowedSearchFoundNone s d goal x = (g : List Event) (replies : List (List ℕ)) → Has (allowed_search_found x) replies
    → AreOutcomeTellingReplies s (outcome_telling_of_script s d) g replies → ¬ IsAllowedRunOfGoal s goal g

-- n beginnings have been looked at, and none that was found is one that is looked for
pub record IsAllowedSearchedWithout (s : Plan) (d : Detail) (goal : Goal) (n : ℕ) (x : AllowedSearch) : Type 0 where
  pub searched : IsAllowedSearched s d n x
  pub none : AllowedSearchFoundNone s d goal x

-- how a search for a run with P ended, if this many beginnings were to be looked at
abbrev pub IsAllowedEnd : Plan → (List Event → Type 0) → ℕ → AllowedEnd → Type 0
IsAllowedEnd s P most (Ending b) = TellsAllowedBeginning s b × P (allowed_beginning_events b)
IsAllowedEnd s P most Through = (g : List Event) → ¬ P g
IsAllowedEnd s P most GivenUp = HasAllowedRunBeginnings s (most + 1)

-- so many were looked at, and it ended so
pub record IsAllowedLooked (s : Plan) (P : List Event → Type 0) (most : ℕ) (looked : AllowedLooked) : Type 0 where
  pub looked_at : HasAllowedRunBeginnings s looked.beginnings
  pub few : looked.beginnings ≤ most
  pub end : IsAllowedEnd s P most looked.end

-- what a search knows that ended so after n beginnings
abbrev pub IsAllowedSearchedTo : Plan → Detail → AllowedSearch → ℕ → AllowedEnd → Type 0
IsAllowedSearchedTo s d x n (Ending b) = ⊤
IsAllowedSearchedTo s d x n Through = IsAllowedSearched s d n x × (x.pending.items ≡ [])
IsAllowedSearchedTo s d x n GivenUp = IsAllowedSearched s d n x
