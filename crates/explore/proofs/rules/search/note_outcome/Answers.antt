use Rattle.std.proofs.Common.{◌≡◌, sym, ◌∙◌}
use Rattle.std.specs.Global.{Vec}
use Rattle.journal.specs.declared.event.Event.{Event}
use Rattle.explore.proofs.NotedOutcomes.{noted_outcome_kept, noted_outcome_put}
use Rattle.explore.proofs.rules.search.note_outcome.Goals as goal

pub returns-in_ok-insert : goal.returns-in_ok-insert
returns-in_ok-insert c =
    noted_outcome_put (λ (run : Vec Event). run.items ≡ c.args.events.now) c.args.outcomes.now c.args.outcome c.in_ok-run.run' c.insert.new.self.entries
    (sym c.contains_key.ensures ∙ c.if-not-contains_key.true) c.in_ok-run.ensures.items c.in_ok-insert.ensures.entries

pub returns-else-not-contains_key : goal.returns-else-not-contains_key
returns-else-not-contains_key c =
    noted_outcome_kept (λ (run : Vec Event). run.items ≡ c.args.events.now) c.args.outcome c.args.outcomes.now.entries
    (sym c.contains_key.ensures ∙ c.if-not-contains_key.false)
