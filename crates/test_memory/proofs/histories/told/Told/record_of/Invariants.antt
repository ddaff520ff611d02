use Rattle.std.proofs.Common.{◌≡◌, take}
use Rattle.page.specs.declared.page.Access.TheVariants.{Valid}
use Rattle.test_memory.proofs.histories.Opened.{IsStoredIn}
use Rattle.test_memory.proofs.histories.told.Told.record_of.Given as goal

abbrev pub invariant-loop-event : goal.invariant-loop-event
invariant-loop-event l =
    record {
      stored : IsStoredIn l.self.sizes l.page (take l.event-index l.events) l.copy;
      valid : l.copy.access ≡ Valid;
    }
