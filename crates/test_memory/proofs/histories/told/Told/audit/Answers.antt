use Rattle.std.proofs.Common.{refl}
use Rattle.test_memory.proofs.histories.Calls.{kept_handed, gives_found, may_flush}
use Rattle.test_memory.proofs.histories.told.Told.audit.Goals as goal

pub invariant_of-self-2 : goal.invariant_of-self-2
invariant_of-self-2 c =
    kept_handed c.self.inside _ c.args.p c.args.block.now _ c.self.invariant refl refl
    c.in_ok-reserve.ensures.items c.note.ensures.items
    (gives_found c.self.inside _ c.args.p c.args.block.now c.self.view_is c.in_ok-may_give.ensures.0)
    c.in_ok-copy.ensures.call.ok

pub audit-requires-clause-call : goal.audit-requires-clause-call
audit-requires-clause-call c =
    may_flush _ c.self.inside.history.items c.self.inside.book c.args.p c.self.invariant.telling.told
    c.args.block.now (gives_found c.self.inside _ c.args.p c.args.block.now c.self.view_is c.in_ok-may_give.ensures.0)
