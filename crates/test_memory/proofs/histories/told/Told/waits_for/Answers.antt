use Rattle.std.proofs.Common.{◌∙◌, ap, subst}
use Rattle.test_memory.specs.Histories.Telling.{Telling, IsTelling}
use Rattle.test_memory.proofs.histories.Reading.{awaits_now}
use Rattle.test_memory.proofs.histories.told.Told.waits_for.Goals as goal

pub returns : goal.returns
returns c = awaits_now c.args.self.now c.deref.result.now c.args.p c.awaited_by.result
    (subst (λ t. IsTelling t) c.self.view_is c.self.invariant.telling)
    (c.deref.ensures.value ∙ ap (λ (t : Telling). t.history) c.self.view_is) c.requires c.awaited_by.ensures
