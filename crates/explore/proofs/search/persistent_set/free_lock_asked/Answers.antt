use Rattle.std.proofs.Common.{Some, ap, subst, sym, ◌∙◌}
use Rattle.std.proofs.lemmas.Option.{none-some, same_Some}
use Rattle.journal.specs.declared.event.Kind.TheVariants.{Ask}
use Rattle.explore.specs.PersistentSets.{IsLockFree}
use Rattle.explore.proofs.Reduced.Persistent.{persistent_ask_same}
use Rattle.explore.proofs.search.persistent_set.free_lock_asked.Goals as goal

pub returns-in_err-lock : goal.returns-in_err-lock
returns-in_err-lock c = λ g tells lock. (
  λ is. absurd (none-some lock (sym c.from_residual.ensures ∙ is)),
  λ both. absurd (none-some lock (sym c.in_err-lock.was ∙ (c.asked_lock.ensures lock).1 both.0)),
)

pub returns-in-Some : goal.returns-in-Some
returns-in-Some c = λ g tells lock. (
  λ is. absurd (none-some lock is),
  λ both.
      let asked = (c.asked_lock.ensures c.in_ok-lock.lock).0 c.in_ok-lock.was in
      let same = persistent_ask_same c.in_ok-lock.lock lock (same_Some (Ask c.in_ok-lock.lock) (Ask lock) (sym asked ∙ both.0)) in
      absurd (subst (IsLockFree g) (sym same) both.1 c.in-Some.field-0 ((c.holder.ensures g tells c.in-Some.field-0).0 c.in-Some.is)),
)

pub returns-in-None : goal.returns-in-None
returns-in-None c = λ g tells lock.
    let asked = (c.asked_lock.ensures c.in_ok-lock.lock).0 c.in_ok-lock.was in
    let free : IsLockFree g c.in_ok-lock.lock = λ q holds. none-some q (sym c.in-None.is ∙ (c.holder.ensures g tells q).1 holds) in (
      λ is.
          let same = same_Some c.in_ok-lock.lock lock is in (asked ∙ ap (λ l. Some (Ask l)) same, subst (IsLockFree g) same free),
      λ both. ap Some (persistent_ask_same c.in_ok-lock.lock lock (same_Some (Ask c.in_ok-lock.lock) (Ask lock) (sym asked ∙ both.0))),
    )
