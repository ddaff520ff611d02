-- The goals are those of each call that enters, over records of this one's steps: proofs/Visiting has what they share.
use Rattle.std.proofs.Common.{refl, arith}
use Rattle.std.specs.Option.{option_map}
use Rattle.journal.specs.ClosingKinds.{closing_awaits_kind}
use Rattle.cluster.specs.SeatedProcessor.{seated_processor}
use Rattle.cluster.proofs.FoundBook.{found_book_allows_flush}
use Rattle.cluster.proofs.Visiting.{visit_finds_book, visit_gives_back, visited, visit_left_as}
use Rattle.cluster.proofs.EndedCalls.{ended_call_copies_alike, ended_call_refused_with, ended_call_spent, ended_call_refused, ended_call_sound}
use Rattle.cluster.proofs.HandingVisits.{handing_visit_call_answered, HandingVisit, handing_visit_made, handing_visit_sound, handing_visit_done, handing_visit_audit_done}
use Rattle.cluster.proofs.cluster.Cluster.audit.Given as given
use Rattle.cluster.proofs.cluster.Cluster.audit.Goals as goal
use Rattle.cluster.proofs.cluster.Cluster.audit.Goals.{After-clear}

pub returns-in_err-held-clause-call : goal.returns-in_err-held-clause-call
returns-in_err-held-clause-call g c =
    let spent = c.in_err-held.ensures.spent in
    rw (ended_call_refused_with _ _ c.from_residual.ensures.1, spent.0, spent.2, ← c.processor.view_is)
    (ended_call_spent c.processor.invariant.0 spent.1)

pub audit-audited-requires-clause-call : goal.audit-audited-requires-clause-call
audit-audited-requires-clause-call g c =
    let m = c.processor.invariant in
    let finds = visit_finds_book m.0 m.1 refl c.in_ok-held.book c.in_ok-held.ensures.finds in
    rw (c.as_slice.ensures.value) (found_book_allows_flush _ m.0 c.in_ok-held.book finds)

pub give_entered_book-requires-clause-call : goal.give_entered_book-requires-clause-call
give_entered_book-requires-clause-call g c κs within =
    let m = c.processor.invariant in
    let made = c.audit-audited.ensures.call in
    visit_gives_back m.0 m.1 refl c.in_ok-held.ensures.entered
    (handing_visit_call_answered _ m.0 _ _ _ _ c.as_slice.ensures.value made.ok made.err made.full)

pub invariant_of-processor-in_err-journal : goal.invariant_of-processor-in_err-journal
invariant_of-processor-in_err-journal g c =
    let m = c.processor.invariant in
    let visit = visited m.0 m.1 refl c.in_ok-held.ensures.entered c.give_entered_book.ensures in
    (ended_call_sound (visit_left_as visit c.in_err-journal.ensures.call.err) _ (ended_call_copies_alike _), visit.seated, m.2)

pub returns-in_err-journal-clause-call : goal.returns-in_err-journal-clause-call
returns-in_err-journal-clause-call g c =
    let m = c.processor.invariant in
    let visit = visited m.0 m.1 refl c.in_ok-held.ensures.entered c.give_entered_book.ensures in
    let bad = c.in_err-journal.ensures.call in
    rw (ended_call_refused_with _ _ c.from_residual-in_err-journal.ensures.1, ← c.processor.view_is)
    (ended_call_refused (visit_left_as visit bad.err) _ _ bad.only bad.full (rw (c.as_slice.ensures.value) refl))

-- the block was handed in
handed : (g : given.Over) (c : After-clear g)
    → let x = c.processor.inside in
    HandingVisit (seated_processor x.chair x.number x.shape x.block.items x.replicas.items x.stored x.time x.held.items (option_map closing_awaits_kind x.awaits))
    c.in_ok-held.book c.audit-audited.new.self c.give_entered_book.new.chair
handed g c =
    let m = c.processor.invariant in
    let visit = visited m.0 m.1 refl c.in_ok-held.ensures.entered c.give_entered_book.ensures in
    let good = c.in_ok-journal.ensures.call in
    handing_visit_made c.in_ok-journal.journal visit c.as_slice.ensures.value good.ok good.full

pub invariant_of-processor-2 : goal.invariant_of-processor-2
invariant_of-processor-2 g c =
    let t = handed g (goal.at.invariant_of-processor-2 g c).After-clear in (
      rw (c.clear.ensures.items) (handing_visit_sound t),
      t.visit.seated,
      (let was = c.processor.invariant.2 in let same = c.clear.ensures.capacity in omega arith),
    )

pub returns-clause-call : goal.returns-clause-call
returns-clause-call g c =
    rw (c.clear.ensures.items, ← c.processor.view_is)
    (handing_visit_done (handed g (goal.at.returns-clause-call g c).After-clear))

pub returns-clause-journal : goal.returns-clause-journal
returns-clause-journal g c =
    rw (c.clear.ensures.items, ← c.processor.view_is)
    (handing_visit_audit_done (handed g (goal.at.returns-clause-journal g c).After-clear) _ c.in_ok-journal.ensures.copy)
