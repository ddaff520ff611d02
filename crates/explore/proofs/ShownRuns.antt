-- Runs that show the outcomes of a search: of each outcome, the events that lead to the state at its place.
use Rattle.std.proofs.Common.{ℕ, ◌≡◌, inl, inr, List, [], ◌∷◌, ◌++◌, Some, slice_get, sym, subst, ◌∙◌}
use Rattle.base.specs.InOrderOnce.{Has}
use Rattle.base.proofs.JoinedLists.{joined_list_has-append, joined_list_has-cons, joined_list_has-nil}
use Rattle.lrc_script.specs.Plan.{Plan}
use Rattle.explore.specs.declared.outcomes.answer.ShownOutcome.{ShownOutcome}
use Rattle.explore.specs.declared.state.flat_state.FlatState.{FlatState}
use Rattle.explore.specs.declared.state.found_states.FoundStates.{FoundStates}
use Rattle.explore.specs.declared.outcomes.telling.Detail.{Detail}
use Rattle.explore.specs.Explored.{IsRunOfShownOutcome, shown_outcome}
use Rattle.explore.specs.FlatSearch.{IsShownAtFlatSearchPlace}
use Rattle.explore.specs.FoundStates.{AreFoundStateMakers, AreFoundStates, found_states}
use Rattle.explore.specs.OutcomeTelling.{AreOutcomeTellingReplies, outcome_telling_of_script}
use Rattle.explore.proofs.MachineSteps.{machine_step_some_at}

-- the events that lead to a state are a run that shows what the state does
pub shown_run_of : (s : Plan) (d : Detail) (found : FoundStates) (x : ShownOutcome) (place : ℕ) → AreFoundStates s found
    → found.first.telling ≡ outcome_telling_of_script s d → IsShownAtFlatSearchPlace s (found_states found) (shown_outcome x) place
    → ((m : FlatState) → slice_get (found_states found) place ≡ Some m → AreFoundStateMakers s m x.makers.items)
    → IsRunOfShownOutcome s d x
shown_run_of s d found x place of tells shown makers =
    let f = machine_step_some_at (found_states found) place shown.within in
    let made = makers f.0 f.1 in
    let both = shown.shows f.0 made.events f.1 made.knows in
    record {
      events = made.events;
      whole = record { beginning = made.knows.beginning; follows = both.0 };
      told = subst (λ t. AreOutcomeTellingReplies s t made.events (shown_outcome x)) (of.told place f.0 f.1 ∙ tells) both.1;
      makers = sym made.are;
    }

-- so has each of these and one more
pub shown_run_pushed : (s : Plan) (d : Detail) (xs : List ShownOutcome) (x : ShownOutcome) → ((y : ShownOutcome) → Has xs y → IsRunOfShownOutcome s d y)
    → IsRunOfShownOutcome s d x → (y : ShownOutcome) → Has (xs ++ x ∷ []) y → IsRunOfShownOutcome s d y
shown_run_pushed s d xs x before now y has = elim ((joined_list_has-append xs (x ∷ []) y).0 has) [
  | inl old ↦ before y old
  | inr new ↦ elim ((joined_list_has-cons x [] y).0 new) [
    | inl is ↦ subst (IsRunOfShownOutcome s d) is now
    | inr none ↦ absurd (joined_list_has-nil y none)
  ]
]
