use Rattle.std.proofs.Common.{◌≡◌, refl, sym, ◌∙◌}
use Rattle.explore.proofs.NotedOutcomes.{noted_outcome_kept, noted_outcome_put}
use Rattle.explore.proofs.search.trials.note_trial_outcome.Goals as goal

pub returns-in_ok-insert : goal.returns-in_ok-insert
returns-in_ok-insert c =
    noted_outcome_put (λ shown_by. shown_by ≡ c.args.makers) c.args.outcomes.now c.args.outcome c.args.makers c.insert.new.self.entries
    (sym c.contains_key.ensures ∙ c.if-not-contains_key.true) refl c.in_ok-insert.ensures.entries

pub returns-else-not-contains_key : goal.returns-else-not-contains_key
returns-else-not-contains_key c =
    noted_outcome_kept (λ shown_by. shown_by ≡ c.args.makers) c.args.outcome c.args.outcomes.now.entries (sym c.contains_key.ensures ∙ c.if-not-contains_key.false)
