use Rattle.std.proofs.Common.{refl, ap, ◌∙◌}
use Rattle.std.specs.Option.{option_map}
use Rattle.journal.specs.ClosingKinds.{closing_awaits_kind}
use Rattle.transit.specs.Letters.{letter}
use Rattle.cluster.specs.Copies.Local.{Local}
use Rattle.cluster.proofs.copies.SoundTaking.{sound_taking_after_same}
use Rattle.cluster.specs.SeatedProcessor.{seated_processor}
use Rattle.cluster.proofs.Visiting.{visit_finds_book, visit_gives_back, visited, visit_left_as}
use Rattle.cluster.proofs.EndedCalls.{ended_call_refused_with, ended_call_outside, ended_call_spent, ended_call_sound}
use Rattle.cluster.proofs.TakingVisits.{TakingVisit, taking_visit_made, taking_visit_may_take, taking_visit_call_answered, taking_visit_refused, taking_visit_may_learn, taking_visit_time_long, taking_visit_sound, taking_visit_done}
use Rattle.cluster.proofs.cluster.Cluster.take.Given as given
use Rattle.cluster.proofs.cluster.Cluster.take.Goals as goal
use Rattle.cluster.proofs.cluster.Cluster.take.Goals.{In_ok-received}

-- the processor took what it waits for
took : (g : given.Over) (c : In_ok-received g)
    → let x = c.processor.inside in
    TakingVisit (seated_processor x.chair x.number x.shape x.block.items x.replicas.items x.stored x.time x.held.items (option_map closing_awaits_kind x.awaits))
    c.in_ok-held.book (closing_awaits_kind c.in_ok-awaited.awaited) (letter c.in_ok-received.field-0) c.give_entered_book.new.chair
took g c =
    let m = c.processor.invariant in
    let waits = ap (λ (l : Local). l.awaits) c.processor.view_is ∙ c.in_ok-awaited.ensures.waits in
    let visit = visited m.0 m.1 refl c.in_ok-held.ensures.entered c.give_entered_book.ensures in
    let ok = c.in_ok-received.ensures in
    taking_visit_made c.in_ok-received.field-0 waits visit ok.ok ok.full

pub returns-in_err-awaited : goal.returns-in_err-awaited
returns-in_err-awaited g c =
    rw (ended_call_refused_with _ _ c.from_residual.ensures.1, ← c.in_err-awaited.ensures.test, ← c.processor.view_is)
    (ended_call_outside _ c.processor.invariant.0 refl)

pub returns-in_err-held : goal.returns-in_err-held
returns-in_err-held g c =
    let spent = c.in_err-held.ensures.spent in
    rw (
      ended_call_refused_with _ _ c.from_residual-in_err-held.ensures.1,
      spent.0,
      spent.2,
      ← c.in_ok-awaited.ensures.test,
      ← c.processor.view_is,
    ) (ended_call_spent c.processor.invariant.0 spent.1)

pub take_from_book-received-requires-clause-call : goal.take_from_book-received-requires-clause-call
take_from_book-received-requires-clause-call g c =
    let m = c.processor.invariant in
    let waits = ap (λ (l : Local). l.awaits) c.processor.view_is ∙ c.in_ok-awaited.ensures.waits in
    taking_visit_may_take _ m.0 _ _ waits (visit_finds_book m.0 m.1 refl c.in_ok-held.book c.in_ok-held.ensures.finds)

pub give_entered_book-requires-clause-call : goal.give_entered_book-requires-clause-call
give_entered_book-requires-clause-call g c κs within =
    let m = c.processor.invariant in
    let waits = ap (λ (l : Local). l.awaits) c.processor.view_is ∙ c.in_ok-awaited.ensures.waits in
    let finds = visit_finds_book m.0 m.1 refl c.in_ok-held.book c.in_ok-held.ensures.finds in
    let made = c.take_from_book-received.ensures in
    visit_gives_back m.0 m.1 refl c.in_ok-held.ensures.entered
    (taking_visit_call_answered _ m.0 _ _ waits finds c.take_from_book-received.result _ made.ok made.err made.full)

pub invariant_of-processor-in_err-received : goal.invariant_of-processor-in_err-received
invariant_of-processor-in_err-received g c =
    let m = c.processor.invariant in
    let visit = visited m.0 m.1 refl c.in_ok-held.ensures.entered c.give_entered_book.ensures in
    let bad = c.in_err-received.ensures in
    (ended_call_sound (visit_left_as visit bad.err) _ bad.same, visit.seated, m.2)

pub returns-in_err-received : goal.returns-in_err-received
returns-in_err-received g c =
    let m = c.processor.invariant in
    let visit = visited m.0 m.1 refl c.in_ok-held.ensures.entered c.give_entered_book.ensures in
    let bad = c.in_err-received.ensures in
    rw (
      ended_call_refused_with _ _ c.from_residual-in_err-received.ensures.1,
      ← c.in_ok-awaited.ensures.test,
      ← c.processor.view_is,
    ) (taking_visit_refused (visit_left_as visit bad.err) _ bad.same _ bad.absent bad.early bad.full bad.only)

pub take_over_message-requires-clause-news : goal.take_over_message-requires-clause-news
take_over_message-requires-clause-news g c =
    let ok = c.in_ok-received.ensures in
    taking_visit_may_learn (took g (goal.at.take_over_message-requires-clause-news g c).In_ok-received) _ ok.same ok.room

pub take_over_message-requires-clause-times : goal.take_over_message-requires-clause-times
take_over_message-requires-clause-times g c = taking_visit_time_long (took g (goal.at.take_over_message-requires-clause-times g c).In_ok-received)

pub invariant_of-processor-2 : goal.invariant_of-processor-2
invariant_of-processor-2 g c =
    let t = took g (goal.at.invariant_of-processor-2 g c).In_ok-received in
    let told = sound_taking_after_same _ _ _ _ c.in_ok-received.ensures.same c.take_over_message.ensures.news in (
      rw (c.take_over_message.ensures.time, c.update_held_by_processor.ensures, c.kind.ensures) (taking_visit_sound t _ told),
      t.visit.seated,
      c.processor.invariant.2,
    )

pub returns : goal.returns
returns g c =
    let t = took g (goal.at.returns g c).In_ok-received in
    let told = sound_taking_after_same _ _ _ _ c.in_ok-received.ensures.same c.take_over_message.ensures.news in
    rw (
      c.take_over_message.ensures.time,
      c.update_held_by_processor.ensures,
      c.kind.ensures,
      ← c.in_ok-awaited.ensures.test,
      ← c.processor.view_is,
    ) (taking_visit_done t _ told)
