use Rattle.std.proofs.Common.{◌≡◌, refl, sym, subst, ◌∙◌}
use Rattle.std.specs.Global.{Vec}
use Rattle.std.proofs.lemmas.Bool.{false≢true}
use Rattle.std.proofs.lemmas.Result.{on_ok_weaker}
use Rattle.journal.specs.declared.event.Event.{Event}
use Rattle.lrc_script.specs.Plan.{plan_of}
use Rattle.explore.specs.AllowedBeginnings.{allowed_beginning_events}
use Rattle.explore.specs.NotedOutcomes.{IsNotedOutcome}
use Rattle.explore.specs.Machines.{machine_rows}
use Rattle.explore.specs.OutcomeTelling.{AreOutcomeTellingReplies}
use Rattle.explore.proofs.AllowedRuns.SearchByRules.{rules_search_looked_onward, rules_search_looked_at_whole}
use Rattle.explore.proofs.rules.search.AllowedSearch.look_at.Goals as goal

pub returns-then-is_whole : goal.returns-then-is_whole
returns-then-is_whole c = on_ok_weaker c.note_outcome.result (λ noted.
    let s = plan_of c.args.script.now in
    rules_search_looked_at_whole s c.args.detail c.args.beginning.now (machine_rows c.in_ok-replies.replies.items) c.args.self.now _ c.requires.steps.lawful
    c.requires.told ((c.is_whole.ensures s c.requires.steps c.requires.told).0 c.if-is_whole.true)
    (subst (λ t. AreOutcomeTellingReplies s t (allowed_beginning_events c.args.beginning.now) (machine_rows c.in_ok-replies.replies.items)) c.of_script-telling.ensures
    (c.in_ok-replies.ensures s c.requires.steps c.requires.told)) refl
    (subst (λ es. IsNotedOutcome c.args.self.now.outcomes.entries c.note_outcome.new.outcomes.entries
    (machine_rows c.in_ok-replies.replies.items) (λ (run : Vec Event). run.items ≡ es)) c.events-events.ensures noted))
    c.note_outcome.ensures

pub returns : goal.returns
returns c = on_ok_weaker c.follow.result (λ on.
    let s = plan_of c.args.script.now in
    rules_search_looked_onward s c.args.detail (allowed_beginning_events c.args.beginning.now) c.args.self.now _
    (λ follows. false≢true (sym c.if-is_whole.false ∙ (c.is_whole.ensures s c.requires.steps c.requires.told).1 follows)) (on c.args.detail)) c.follow.ensures
