use Rattle.std.proofs.Common.{inl, inr, ◌∙◌}
use Rattle.explore.specs.PersistentSets.PersistentMember.{asks, asks_in_vain}
use Rattle.explore.proofs.search.persistent_set.settle.Goals as goal

pub returns-in-Some-clause-settled : goal.returns-in-Some-clause-settled
returns-in-Some-clause-settled c = λ yes s g nexts next given.
    let asked = next ∙ (c.asked_lock.ensures c.in-Some.lock).0 c.in-Some.is in
    elim (c.settle_ask.ensures.settled yes s c.args.steps.now g given) [
      | inl held ↦ asks_in_vain c.in-Some.lock asked held
      | inr free ↦ asks c.in-Some.lock asked free.0 free.1
    ]

pub returns-then-is_none-clause-settled : goal.returns-then-is_none-clause-settled
returns-then-is_none-clause-settled c = λ yes s g nexts next given. c.settle_wait.ensures.settled yes s g nexts given
