use Rattle.std.proofs.Common.{◌∙◌, subst, sym}
use Rattle.judge.specs.declared.sizes.Sizes.{Sizes as Given}
use Rattle.judge.specs.Miscounted.{IsEventInSizes}
use Rattle.judge.specs.JudgedSizes.{judged_sizes_of}
use Rattle.causes.proofs.states_of_events.event_states.Goals as goal

pub all_event_states-requires-clause-within : goal.all_event_states-requires-clause-within
all_event_states-requires-clause-within c = λ k e at.
    subst (λ (x : Given). IsEventInSizes (judged_sizes_of x) e) (sym (c.in_ok-gaps.ensures.sizes ∙ c.sizes-sizes.ensures.value))
    (c.events-events.ensures.within k e at)
