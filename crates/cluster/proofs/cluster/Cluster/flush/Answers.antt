use Rattle.std.proofs.Common.{refl, arith}
use Rattle.cluster.proofs.FoundBook.{found_book_allows_flush}
use Rattle.cluster.proofs.Visiting.{visit_finds_book, visit_gives_back, visited, visit_left_as}
use Rattle.cluster.proofs.EndedCalls.{ended_call_copies_alike, ended_call_refused_with, ended_call_spent, ended_call_refused, ended_call_sound}
use Rattle.cluster.proofs.HandingVisits.{handing_visit_call_answered, handing_visit_made, handing_visit_sound, handing_visit_done}
use Rattle.cluster.proofs.cluster.Cluster.flush.Goals as goal

pub returns-in_err-held : goal.returns-in_err-held
returns-in_err-held g c =
    let spent = c.in_err-held.ensures.spent in
    rw (ended_call_refused_with _ _ c.from_residual.ensures.1, spent.0, spent.2, ← c.processor.view_is)
    (ended_call_spent c.processor.invariant.0 spent.1)

pub hand_in-handed-requires-clause-call : goal.hand_in-handed-requires-clause-call
hand_in-handed-requires-clause-call g c =
    let m = c.processor.invariant in
    let finds = visit_finds_book m.0 m.1 refl c.in_ok-held.book c.in_ok-held.ensures.finds in
    rw (c.as_slice.ensures.value) (found_book_allows_flush _ m.0 c.in_ok-held.book finds)

pub give_entered_book-requires-clause-call : goal.give_entered_book-requires-clause-call
give_entered_book-requires-clause-call g c κs within =
    let m = c.processor.invariant in
    let made = c.hand_in-handed.ensures in
    visit_gives_back m.0 m.1 refl c.in_ok-held.ensures.entered
    (handing_visit_call_answered _ m.0 _ _ _ _ c.as_slice.ensures.value made.ok made.err made.full)

pub invariant_of-processor-in_err-handed : goal.invariant_of-processor-in_err-handed
invariant_of-processor-in_err-handed g c =
    let m = c.processor.invariant in
    let visit = visited m.0 m.1 refl c.in_ok-held.ensures.entered c.give_entered_book.ensures in
    (ended_call_sound (visit_left_as visit c.in_err-handed.ensures.err) _ (ended_call_copies_alike _), visit.seated, m.2)

pub returns-in_err-handed : goal.returns-in_err-handed
returns-in_err-handed g c =
    let m = c.processor.invariant in
    let visit = visited m.0 m.1 refl c.in_ok-held.ensures.entered c.give_entered_book.ensures in
    let bad = c.in_err-handed.ensures in
    rw (ended_call_refused_with _ _ c.from_residual-in_err-handed.ensures.1, ← c.processor.view_is)
    (ended_call_refused (visit_left_as visit bad.err) _ _ bad.only bad.full (rw (c.as_slice.ensures.value) refl))

pub invariant_of-processor-2 : goal.invariant_of-processor-2
invariant_of-processor-2 g c =
    let m = c.processor.invariant in
    let visit = visited m.0 m.1 refl c.in_ok-held.ensures.entered c.give_entered_book.ensures in
    let good = c.in_ok-handed.ensures in
    let done = handing_visit_made c.in_ok-handed.field-0 visit c.as_slice.ensures.value good.ok good.full in (
      rw (c.clear.ensures.items) (handing_visit_sound done),
      visit.seated,
      (let was = m.2 in let same = c.clear.ensures.capacity in omega arith),
    )

pub returns : goal.returns
returns g c =
    let m = c.processor.invariant in
    let visit = visited m.0 m.1 refl c.in_ok-held.ensures.entered c.give_entered_book.ensures in
    let good = c.in_ok-handed.ensures in
    let done = handing_visit_made c.in_ok-handed.field-0 visit c.as_slice.ensures.value good.ok good.full in
    rw (c.clear.ensures.items, ← c.processor.view_is) (handing_visit_done done)
