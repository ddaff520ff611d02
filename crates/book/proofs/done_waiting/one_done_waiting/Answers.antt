use Rattle.std.proofs.Common.{◌∙◌, ℕ, List, Some, inl, inr, sym, subst, ap}
use Rattle.std.proofs.lemmas.Option.{same_Some}
use Rattle.base.specs.InOrderOnce.{Has}
use Rattle.base.proofs.JoinedLists.{joined_list_has-nil}
use Rattle.book.proofs.Calling.WaitingPlaces.{IsDoneWaitingAtPlace}
use Rattle.book.proofs.done_waiting.one_done_waiting.Goals as goal

pub returns-then-is_done_waiting : goal.returns-then-is_done_waiting
returns-then-is_done_waiting c q = (
  (λ has. elim ((c.add.ensures q).0 has) [
    | inl own ↦ (
        let come = subst (IsDoneWaitingAtPlace c.args.awaits.now c.args.flags.now c.args.mail.now c.args.awaited) (sym own.0)
        (c.is_done_waiting.ensures.0 c.if-is_done_waiting.true) in
        (c.in-Some.is ∙ ap (λ (n : ℕ). Some n) (sym own.0), own.1, come.0, come.1))
    | inr was ↦ absurd (joined_list_has-nil q (subst (λ (xs : List ℕ). Has xs q) c.none-waiters.ensures was))
  ]),
  (λ x. (c.add.ensures q).1 (inl (same_Some q c.in-Some.p (sym x.0 ∙ c.in-Some.is), x.1))),
)
