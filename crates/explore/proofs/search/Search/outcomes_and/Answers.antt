use Rattle.std.proofs.Common.{◌≡◌, List, map, sym, ap, subst, ◌∙◌}
use Rattle.base.specs.InOrderOnce.{Has}
use Rattle.explore.specs.declared.outcomes.answer.ShownOutcome.{ShownOutcome}
use Rattle.explore.specs.Explored.{AreExploredOutcomes, shown_outcome}
use Rattle.explore.specs.FlatSearch.{AreFlatSearchPlaces}
use Rattle.explore.specs.FoundStates.{found_states}
use Rattle.explore.specs.NotedOutcomes.{noted_outcomes}
use Rattle.explore.proofs.Trials.{trial_outcomes_all, trial_outcomes_explored, trial_outcomes_runs, trial_outcomes_tried}
use Rattle.explore.proofs.search.Search.outcomes_and.Goals as goal

pub search_outcomes_with_runs-requires : goal.search_outcomes_with_runs-requires
search_outcomes_with_runs-requires c =
    let s = c.requires.0 in (
      s,
      c.requires.1,
      c.requires.2,
      subst (λ m. AreFlatSearchPlaces s (found_states c.args.self.now.found) m.entries) (sym c.replace-outcomes.ensures.value) c.requires.3,
    )

pub returns : goal.returns
returns c =
    let x = c.args.self.now in
    let rows = noted_outcomes x.outcomes.entries in
    let shown = c.in_ok-shown.shown.items in
    let tried = c.args.tried.entries in
    let same = c.replace-outcomes.ensures.value in
    let listed : map shown_outcome shown ≡ rows =
    c.in_ok-shown.ensures.listed ∙ ap (λ m. noted_outcomes m.entries) same in
    let pushed = sym c.in_ok-push_trial_outcomes.ensures in
    record {
      outcomes = λ s d of are.
          subst (λ (xs : List ShownOutcome). AreExploredOutcomes s d (map shown_outcome xs)) pushed (trial_outcomes_explored rows shown listed tried s d of are);
      all = λ replies has.
          subst (λ (xs : List ShownOutcome). Has (map shown_outcome xs) replies) pushed (trial_outcomes_all rows shown listed tried replies has);
      runs = λ s d found places telling are y has.
          trial_outcomes_runs rows shown listed tried s d
          (c.in_ok-shown.ensures.runs s d found (subst (λ m. AreFlatSearchPlaces s (found_states x.found) m.entries) (sym same) places) telling) are y
          (subst (λ (xs : List ShownOutcome). Has xs y) (sym pushed) has);
      tried = λ replies has.
          subst (λ (xs : List ShownOutcome). Has (map shown_outcome xs) replies) pushed (trial_outcomes_tried rows shown listed tried replies has);
    }
