use Rattle.std.proofs.Common.{◌≡◌, ◌∙◌, refl, ap, ◌++◌, ◌∷◌, [], Some, slice_get, subst, sym}
use Rattle.journal.specs.DidEvent.{event}
use Rattle.test_memory.specs.Histories.Telling.{Telling}
use Rattle.test_memory.proofs.histories.Calls.{kept_after, follows_take}
use Rattle.test_memory.proofs.histories.told.Told.take.Goals as goal

pub invariant_of-self-2 : goal.invariant_of-self-2
invariant_of-self-2 c =
    let waits = subst (λ (t : Telling). slice_get t.book.awaits c.args.p ≡ Some (Some c.in-Some.kind))
    (sym c.self.view_is) c.in-Some.ensures in
    kept_after c.self.inside _ _ c.self.invariant refl refl
    (c.push_reserved.ensures.items
    ∙ ap (λ es. es ++ event c.args.p c.in-Some.kind ∷ []) c.in_ok-reserve.ensures.items)
    (follows_take _ c.self.inside.history.items c.self.inside.book c.take.new.self c.args.p c.in-Some.kind _
    c.self.invariant.telling.told waits c.in_ok-message.ensures.ok)
