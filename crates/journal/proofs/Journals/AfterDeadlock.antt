-- No event may follow a deadlock.
use Rattle.std.proofs.Common.{◌≡◌, IsTrue, Some, refl, subst, sym}
use Rattle.journal.specs.declared.event.Kind.{Kind}
use Rattle.journal.specs.declared.event.Kind.TheVariants.{Ask, Arrive, Watch}
use Rattle.journal.specs.Events.{event_takes}
use Rattle.journal.specs.WellFormed.{WellFormedAnswer}
use Rattle.journal.specs.AwaitedNext.{awaited_next}
use Rattle.journal.specs.Deadlocks.{DeadlockLaw}

-- what answers a call that waits is an event of taking
pub after_deadlock_answers_taking : (a c k : Kind) → awaited_next a ≡ Some c → WellFormedAnswer a k → IsTrue (event_takes k)
after_deadlock_answers_taking (Ask l) c k h r = subst (λ b. IsTrue (event_takes b)) (sym r) refl
after_deadlock_answers_taking Arrive c k h r = subst (λ b. IsTrue (event_takes b)) (sym r) refl
after_deadlock_answers_taking (Watch f) c k h r = subst (λ b. IsTrue (event_takes b)) (sym r) refl
after_deadlock_answers_taking _ c k h r = absurd cc

pub after_deadlock_law : DeadlockLaw
after_deadlock_law s j e dead may =
    let w = dead.waits e.processor may.processor in
    dead.not_ready e.processor
    (e.kind, after_deadlock_answers_taking w.1 w.2 e.kind w.4 (may.answers w.0 w.1 w.3), may.allowed)
