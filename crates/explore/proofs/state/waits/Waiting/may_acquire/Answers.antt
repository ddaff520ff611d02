use Rattle.std.proofs.Common.{ℕ, ◌<◌, All, subst, sym, ◌∙◌}
use Rattle.std.proofs.lemmas.Bool.{eq-eqb, eqb-true, false≢true}
use Rattle.base.specs.InOrderOnce.{Has}
use Rattle.explore.specs.KeptWaiting.{IsKeptWaitingForLock, IsFirstKeptWaiting}
use Rattle.explore.proofs.Asked.{asked_small, asked_first_may_acquire, asked_by_somebody, asked_somebody_holds}
use Rattle.explore.proofs.state.waits.Waiting.may_acquire.Goals as goal

pub first_waiting_of-requires : goal.first_waiting_of-requires
first_waiting_of-requires c = record {
  small =
      subst (All (λ q. q < 16)) (sym c.deref.ensures.value)
      (asked_small c.args.self.now.asked.items c.requires.tells.1.asked.small);
  lock = c.requires.lock;
}

pub returns-in-Some : goal.returns-in-Some
returns-in-Some c = λ j tells i last. (
  λ yes. absurd (false≢true yes),
  λ may. absurd (asked_somebody_holds j c.args.self.now c.args.lock _ i tells (sym c.processor.ensures ∙ c.in-Some.is) may),
)

pub returns-in-Some-first_waiting_of : goal.returns-in-Some-first_waiting_of
returns-in-Some-first_waiting_of c = λ j tells i last.
    let x = c.args.self.now in
    let p = c.args.processor in
    let l = c.args.lock in
    let q = c.in-Some-first_waiting_of.first in
    let found = subst (λ asked. IsFirstKeptWaiting asked x.waits l q) c.deref.ensures.value c.in-Some-first_waiting_of.ensures in
    let is = asked_first_may_acquire j x p i l q tells last (sym c.processor.ensures ∙ c.in_default.is) found in
    ((λ yes. is.0 (eqb-true q p yes)), (λ may. eq-eqb q p (is.1 may)))

pub returns-in-None : goal.returns-in-None
returns-in-None c = λ j tells i last.
    let x = c.args.self.now in
    let l = c.args.lock in
    let none = subst (λ asked. (q : ℕ) → Has asked q → ¬ IsKeptWaitingForLock x.waits q l) c.deref.ensures.value c.in-None.ensures in
    absurd (asked_by_somebody j x c.args.processor i l tells last none)
