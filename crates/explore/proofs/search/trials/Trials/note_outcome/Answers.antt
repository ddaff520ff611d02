use Rattle.std.proofs.Common.{sym, ◌∙◌}
use Rattle.std.proofs.lemmas.Result.{on_ok_weaker}
use Rattle.explore.specs.NotedOutcomes.{noted_outcomes}
use Rattle.explore.proofs.NotedOutcomes.{noted_outcome_missing}
use Rattle.explore.proofs.Trials.{trial_outcome_noted}
use Rattle.explore.proofs.search.trials.Trials.note_outcome.Goals as goal

pub returns : goal.returns
returns c = on_ok_weaker c.note_trial_outcome.result (λ noted s d are shows.
    let known = c.args.known.now.entries in
    record {
      racy = are.racy;
      hang = are.hang;
      ends = are.ends;
      outcomes = trial_outcome_noted s d (noted_outcomes known) c.args.self.now.outcomes.entries c.note_trial_outcome.new.outcomes.entries
          c.args.shown.outcome c.args.shown.makers are.outcomes noted
          (noted_outcome_missing c.args.shown.outcome known (sym c.contains_key.ensures ∙ c.if-contains_key.false)) shows;
    }) c.note_trial_outcome.ensures
