use Rattle.std.proofs.Common.{Some, refl, subst, sym, arith}
use Rattle.std.proofs.lemmas.Grind.{elements}
use Rattle.judge.specs.declared.sizes.Sizes.{Sizes as Given}
use Rattle.judge.specs.JudgedSizes.{judged_sizes_of}
use Rattle.causes.specs.EventStates.{IsEventState, IsEventStateIfAsked}
use Rattle.causes.proofs.states_of_events.event_state_at.Goals as goal

pub returns-clause-state : goal.returns-clause-state
returns-clause-state c =
    let s = judged_sizes_of c.args.gaps.now.sizes in
    let j = c.args.events.now in
    let k = c.args.place in
    let state = c.in_ok-state.state in
    subst (λ asked. IsEventStateIfAsked s j k asked (Some state)) (sym c.if-not-is_asked.false) (λ e at. (
      state,
      refl,
      subst (λ (x : Given). IsEventState (judged_sizes_of x) j k e state) c.notices_at.ensures.sizes (c.in_ok-state.ensures e at),
    ))

pub event_state_of-requires-clause-within : goal.event_state_of-requires-clause-within
event_state_of-requires-clause-within c = grind (arith, elements)
