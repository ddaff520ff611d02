use Rattle.std.proofs.Common.{◌∙◌, ap, subst, ◌++◌}
use Rattle.journal.specs.IntervalContents.{open_interval_contents}
use Rattle.test_memory.specs.Histories.Telling.{Telling, IsTelling}
use Rattle.test_memory.proofs.histories.Calls.{may_close}
use Rattle.test_memory.proofs.histories.told.Told.closing.Goals as goal

pub returns : goal.returns
returns c =
    let history = c.deref.ensures.value ∙ ap (λ (t : Telling). t.history) c.self.view_is in
    may_close c.args.self.now c.args.p c.args.block.now c.deref-2.result.now _
    (subst (λ t. IsTelling t) c.self.view_is c.self.invariant.telling)
    c.in_ok-may_hand_in.ensures.0 c.in_ok-may_hand_in.ensures.1
    (c.deref-2.ensures.value ∙ c.in_ok-extend_from_slice.ensures.items
    ∙ ap (λ es. es ++ c.args.block.now) (c.in_ok-events.ensures ∙ ap (λ h. open_interval_contents h c.args.p) history))
    c.in_ok-records_of.ensures
