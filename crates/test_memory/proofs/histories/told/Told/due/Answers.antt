use Rattle.test_memory.proofs.histories.Calls.{may_look}
use Rattle.test_memory.proofs.histories.told.Told.due.Goals as goal

pub due-requires : goal.due-requires
due-requires c = record {
  call = may_look _ c.self.inside.history.items c.self.inside.book c.args.p c.self.invariant.telling.told
      c.if-p-self.true;
}
