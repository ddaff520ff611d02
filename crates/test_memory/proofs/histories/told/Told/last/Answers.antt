use Rattle.std.proofs.Common.{◌∙◌, refl, ap, ◌++◌}
use Rattle.test_memory.proofs.histories.Calls.{kept_last, gives_found, may_flush}
use Rattle.test_memory.proofs.histories.told.Told.last.Goals as goal

pub invariant_of-self-2 : goal.invariant_of-self-2
invariant_of-self-2 c =
    kept_last c.self.inside _ c.args.p c.args.block.now c.self.invariant refl refl
    (c.note.ensures.items ∙ ap (λ es. es ++ c.args.block.now) c.in_ok-reserve.ensures.items)
    (gives_found c.self.inside _ c.args.p c.args.block.now c.self.view_is c.in_ok-may_give.ensures.0) c.last.ensures

pub last-requires-clause-call : goal.last-requires-clause-call
last-requires-clause-call c =
    may_flush _ c.self.inside.history.items c.self.inside.book c.args.p c.self.invariant.telling.told
    c.args.block.now (gives_found c.self.inside _ c.args.p c.args.block.now c.self.view_is c.in_ok-may_give.ensures.0)
