use Rattle.std.proofs.Common.{◌≡◌, ap, sym, subst, ◌∙◌, refl, Some}
use Rattle.std.proofs.lemmas.Bool.{false≢true}
use Rattle.std.proofs.lemmas.Result.{on_ok_weaker}
use Rattle.explore.specs.declared.search.Search.{Search}
use Rattle.explore.specs.NotedOutcomes.{IsNotedOutcome}
use Rattle.explore.specs.FoundStates.{found_states}
use Rattle.explore.proofs.LikeMachines.{like_machine_knows}
use Rattle.explore.proofs.MachineSteps.{machine_step_some_at}
use Rattle.explore.proofs.SearchedStates.{searched_state_noted_hanging, searched_state_noted_whole}
use Rattle.explore.proofs.search.Search.note_end.Goals as goal

pub is_whole-requires : goal.is_whole-requires
is_whole-requires c =
    let s = c.requires.may.0 in
    let may = c.requires.may.1 in
    let stored = machine_step_some_at (found_states c.args.self.now.found) c.args.place may.within in
    let g = may.found.known c.args.place stored.0 stored.1 in
    record {
      plan = s;
      lawful = may.lawful;
      events = g.0;
      knows = like_machine_knows s g.0 stored.0 c.args.state.now (c.requires.state stored.0 stored.1) g.1;
    }

pub returns-then-is_whole-clause-noted : goal.returns-then-is_whole-clause-noted
returns-then-is_whole-clause-noted c = on_ok_weaker c.note_search_outcome.result (λ noted s may.
    let x = c.args.self.now in
    let stored = machine_step_some_at (found_states c.args.self.now.found) c.args.place may.within in
    let f = stored.0 in
    let like = c.requires.state f stored.1 in
    let y : Search = record {
      found = x.found;
      outcomes = c.note_search_outcome.new.outcomes;
      hang = x.hang;
    } in
    searched_state_noted_whole s x c.args.steps.now c.args.place f may stored.1
    (λ g knows. (c.is_whole.ensures s g may.lawful (like_machine_knows s g f c.args.state.now like knows)).0 c.if-is_whole.true) y refl refl
    (subst (λ rows. IsNotedOutcome x.outcomes.entries y.outcomes.entries rows (λ place. place ≡ c.args.place)) (c.in_ok-replies.ensures ∙ like.replies)
    noted)) c.note_search_outcome.ensures

pub returns-clause-noted : goal.returns-clause-noted
returns-clause-noted c = λ s may.
    let stored = machine_step_some_at (found_states c.args.self.now.found) c.args.place may.within in
    let f = stored.0 in
    let like = c.requires.state f stored.1 in
    searched_state_noted_hanging s c.args.self.now _ c.args.steps.now c.args.place f may stored.1
    (λ g knows follows.
    false≢true (sym c.if-is_whole.false ∙ (c.is_whole.ensures s g may.lawful (like_machine_knows s g f c.args.state.now like knows)).1 follows)) refl refl
    (ap Some c.unwrap_or.ensures)
