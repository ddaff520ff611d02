-- The goals are those of each call that enters, over records of this one's steps: proofs/Visiting has what they share.
use Rattle.std.proofs.Common.{[], refl, sym, ap, ◌∙◌}
use Rattle.std.proofs.lemmas.Option.{none-some}
use Rattle.cluster.specs.ProcessorRefusals.{processor_refusal_is_waiting}
use Rattle.cluster.proofs.LeavingCalls.{leaving_call_of_nothing}
use Rattle.cluster.proofs.MayAccessAndFetch.{may_access_unawaited}
use Rattle.cluster.proofs.Visiting.{visit_finds_book, visit_gives_back, visited}
use Rattle.cluster.proofs.EndedCalls.{ended_call_copies_alike, ended_call_sound}
use Rattle.cluster.proofs.TakingVisits.{taking_visit_may_take}
use Rattle.cluster.proofs.WaitingVisits.{waiting_visit_answered_with, waiting_visit_awaited, waiting_visit_idle, waiting_visit_looked, waiting_visit_spent}
use Rattle.cluster.proofs.cluster.Cluster.wait.Goals as goal

pub returns-then-not-waiting : goal.returns-then-not-waiting
returns-then-not-waiting g c =
    let idle = ap processor_refusal_is_waiting c.processor.view_is ∙ sym c.waiting.ensures ∙ c.if-not-waiting.true in
    rw (← c.processor.view_is) (waiting_visit_idle c.processor.invariant.0 (may_access_unawaited _ idle))

pub returns-in_err-held : goal.returns-in_err-held
returns-in_err-held g c =
    let some = waiting_visit_awaited _ (ap processor_refusal_is_waiting c.processor.view_is ∙ sym c.waiting.ensures ∙ c.if-not-waiting.false) in
    let spent = c.in_err-held.ensures.spent in
    rw (waiting_visit_answered_with _ _ c.from_residual.ensures.1, spent.0, spent.2, ← c.processor.view_is)
    (waiting_visit_spent c.processor.invariant.0 (λ none. none-some some.0 (sym none ∙ some.1)) spent.1)

pub look_while_waiting-found-requires : goal.look_while_waiting-found-requires
look_while_waiting-found-requires g c =
    let m = c.processor.invariant in
    let some = waiting_visit_awaited _ (ap processor_refusal_is_waiting c.processor.view_is ∙ sym c.waiting.ensures ∙ c.if-not-waiting.false) in
    let finds = visit_finds_book m.0 m.1 refl c.in_ok-held.book c.in_ok-held.ensures.finds in
    record { call = taking_visit_may_take _ m.0 _ _ some.1 finds }

pub give_entered_book-requires-clause-call : goal.give_entered_book-requires-clause-call
give_entered_book-requires-clause-call g c κs within =
    let m = c.processor.invariant in
    visit_gives_back m.0 m.1 refl c.in_ok-held.ensures.entered ([], leaving_call_of_nothing _ c.in_ok-held.book)

pub invariant_of-processor-2 : goal.invariant_of-processor-2
invariant_of-processor-2 g c =
    let m = c.processor.invariant in
    let visit = visited m.0 m.1 refl c.in_ok-held.ensures.entered c.give_entered_book.ensures in
    (ended_call_sound visit _ (ended_call_copies_alike _), visit.seated, m.2)

pub returns : goal.returns
returns g c =
    let m = c.processor.invariant in
    let some = waiting_visit_awaited _ (ap processor_refusal_is_waiting c.processor.view_is ∙ sym c.waiting.ensures ∙ c.if-not-waiting.false) in
    let visit = visited m.0 m.1 refl c.in_ok-held.ensures.entered c.give_entered_book.ensures in
    let found = c.look_while_waiting-found.ensures in
    rw (c.settle_waiting.ensures, ← c.processor.view_is)
    (waiting_visit_looked visit (λ none. none-some some.0 (sym none ∙ some.1)) _ found.stuck found.deserted)
