use Rattle.std.proofs.Common.{◌↔◌, IsTrue, subst}
use Rattle.journal.specs.Deadlocks.{IsDeadlock}
use Rattle.test_memory.specs.Histories.Telling.{Telling}
use Rattle.test_memory.proofs.histories.told.Told.is_deadlocked.Goals as goal

pub is_deadlocked-requires : goal.is_deadlocked-requires
is_deadlocked-requires c =
    let told = c.self.invariant.telling.told in
    record { told = record { sizes = _; history = c.self.inside.history.items; told = told } }

pub returns : goal.returns
returns c =
    subst (λ (t : Telling). IsTrue c.is_deadlocked.result ↔ IsDeadlock t.sizes t.history) c.self.view_is
    (c.is_deadlocked.ensures _ c.self.inside.history.items c.self.invariant.telling.told)
