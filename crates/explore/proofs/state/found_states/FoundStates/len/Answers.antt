use Rattle.std.proofs.Common.{sym, subst, ◌∙◌}
use Rattle.std.proofs.lemmas.List.{length-map}
use Rattle.explore.specs.KeptStates.{opened_state}
use Rattle.explore.specs.StatesOfScript.{HasStatesOfScript}
use Rattle.explore.proofs.CountedStates.{has_counted_states}
use Rattle.explore.proofs.state.found_states.FoundStates.len.Goals as goal

pub returns-clause-states : goal.returns-clause-states
returns-clause-states c = λ s d found telling.
    let x = c.args.self.now in
    subst (HasStatesOfScript s d) (length-map x.states.keys (opened_state x.parts x.first) ∙ sym c.len.ensures.len)
    (has_counted_states s d x found telling c.len.ensures.unique)
