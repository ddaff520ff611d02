-- What a search knows of what it looks for, state by state.
use Rattle.std.proofs.Common.{ℕ, ◌≡◌, ◌+◌, ◌<◌, inl, inr, false, List, Some, None, length, slice_get, sym, subst, arith}
use Rattle.std.specs.Global.{Vec}
use Rattle.std.proofs.lemmas.Bool.{cases_eq, false≢true}
use Rattle.std.proofs.lemmas.Option.{slice_get_within}
use Rattle.journal.specs.declared.event.Event.{Event}
use Rattle.lrc_script.specs.Plan.{Plan}
use Rattle.explore.specs.declared.prefixes.script_call.ScriptCall.{ScriptCall}
use Rattle.explore.specs.declared.state.flat_state.FlatState.{FlatState}
use Rattle.explore.specs.declared.search.Search.{Search}
use Rattle.explore.specs.declared.search.SearchEnd.{SearchEnd}
use Rattle.explore.specs.declared.outcomes.showing.Showing.{Showing}
use Rattle.explore.specs.declared.outcomes.showing.Showing.TheVariants.{Shown, Never, Racy, Undecided}
use Rattle.explore.specs.FoundStates.{AreFoundStates, KeepsFoundStates, found_states}
use Rattle.explore.specs.Machines.{AreLawfulMachineSteps, MachineKnows}
use Rattle.explore.specs.EndingWords.{IsRunEndingWithWords, NoRunEndsWithWords, are_ending_words_settled}
use Rattle.explore.specs.FlatSearchEnds.{FlatSearchedWithout, IsFlatSearchShowingOpen}
use Rattle.explore.specs.SearchGoals.{IsGoalMetAt, IsGoalUnmet}
use Rattle.explore.proofs.MachineSteps.{machine_step_some_at}
use Rattle.explore.proofs.SearchedStates.{searched_states_reach_lasting, searched_state_was_at}
use Rattle.explore.proofs.Reduced.Ends.{reduced_ends_words_last}

-- one more state isn't what is looked for, and others were found
pub goal_unmet_next : (s : Plan) (P : List Event → Type 0) (old new : List FlatState) (n : ℕ) → KeepsFoundStates old new → n < length old
    → ((m : FlatState) (g : List Event) → slice_get old n ≡ Some m → MachineKnows s g m → ¬ P g)
    → IsGoalUnmet s P old n → IsGoalUnmet s P new (n + 1)
goal_unmet_next s P old new n keeps within isnt unmet place m g lt at knows = elim (cases_eq place n) [
  | inl is ↦
      isnt m g (searched_state_was_at old new n m keeps within (subst (λ i. slice_get new i ≡ Some m) is at)) knows
  | inr other ↦ unmet place m g (omega arith) (searched_state_was_at old new place m keeps (omega arith) at) knows
]

-- where all states were looked at and none ends with these words, no run does
pub goal_no_run : (s : Plan) (x : Search) (steps : List (Vec ScriptCall)) (words : List (ℕ × ℕ)) → AreLawfulMachineSteps s steps
    → FlatSearchedWithout s x steps (IsRunEndingWithWords s words) (length (found_states x.found)) → NoRunEndsWithWords s words
goal_no_run s x steps words lawful without g run =
    let r = searched_states_reach_lasting s x steps lawful without.searched (IsRunEndingWithWords s words)
    (reduced_ends_words_last s steps words lawful.lawful.but_uneven.one_each) g run.whole.beginning run in
    let known = r.found in
    without.unmet known.place known.state r.events
    (slice_get_within (found_states x.found) known.place known.state known.at) known.at known.knows r.has

-- each state is one of some beginning, so none is what nothing is
pub goal_of_none : (s : Plan) (x : Search) (place : ℕ) → AreFoundStates s x.found → ¬ IsGoalMetAt s (λ _. ⊥) (found_states x.found) place
goal_of_none s x place found met =
    let stored = machine_step_some_at (found_states x.found) place met.within in
    let known = found.known place stored.0 stored.1 in
    met.ends stored.0 known.0 stored.1 known.1

-- whether a run ends with some words is open only if nothing was met and not all states were looked at
pub goal_open_only : (end : SearchEnd) (showing : Showing) → IsFlatSearchShowingOpen end showing → are_ending_words_settled showing ≡ false
    → (end.met ≡ None) × (end.through ≡ false)
goal_open_only end Undecided opens is = opens
goal_open_only end (Shown run) opens is = absurd (false≢true (sym is))
goal_open_only end Never opens is = absurd (false≢true (sym is))
goal_open_only end (Racy racy) opens is = absurd (false≢true (sym is))
