-- The goals are those of each call that enters, over records of this one's steps: proofs/Visiting has what they share.
use Rattle.std.proofs.Common.{refl}
use Rattle.cluster.proofs.Visiting.{visit_gives_back, visited, visit_left_as}
use Rattle.cluster.proofs.EndedCalls.{ended_call_copies_alike, ended_call_refused_with, ended_call_sound}
use Rattle.cluster.proofs.CuttingVisits.{cutting_visit_call_answered, cutting_visit_sound, cutting_visit_done, cutting_visit_refused, cutting_visit_spent}
use Rattle.cluster.proofs.cluster.Cluster.cut.Goals as goal

pub returns-in_err-held : goal.returns-in_err-held
returns-in_err-held g c =
    let spent = c.in_err-held.ensures.spent in
    rw (ended_call_refused_with _ _ c.from_residual.ensures.1, spent.0, spent.2, ← c.processor.view_is)
    (cutting_visit_spent c.processor.invariant.0 spent.1)

pub give_entered_book-requires-clause-call : goal.give_entered_book-requires-clause-call
give_entered_book-requires-clause-call g c κs within =
    let m = c.processor.invariant in
    let made = c.cluster_cut_off-cut.ensures in
    visit_gives_back m.0 m.1 refl c.in_ok-held.ensures.entered
    (cutting_visit_call_answered _ c.in_ok-held.book _ c.cluster_cut_off-cut.result made.ok made.err)

pub invariant_of-processor-in_err-cut : goal.invariant_of-processor-in_err-cut
invariant_of-processor-in_err-cut g c =
    let m = c.processor.invariant in
    let visit = visited m.0 m.1 refl c.in_ok-held.ensures.entered c.give_entered_book.ensures in
    (ended_call_sound (visit_left_as visit c.in_err-cut.ensures.err) _ (ended_call_copies_alike _), visit.seated, m.2)

pub returns-in_err-cut : goal.returns-in_err-cut
returns-in_err-cut g c =
    let m = c.processor.invariant in
    let visit = visited m.0 m.1 refl c.in_ok-held.ensures.entered c.give_entered_book.ensures in
    let bad = c.in_err-cut.ensures in
    rw (ended_call_refused_with _ _ c.from_residual-in_err-cut.ensures.1, bad.fault.1, ← c.processor.view_is)
    (cutting_visit_refused (visit_left_as visit bad.err) bad.fault.0 bad.fault.2)

pub invariant_of-processor-2 : goal.invariant_of-processor-2
invariant_of-processor-2 g c =
    let m = c.processor.invariant in
    let visit = visited m.0 m.1 refl c.in_ok-held.ensures.entered c.give_entered_book.ensures in
    (cutting_visit_sound visit c.in_ok-cut.ensures.ok, visit.seated, m.2)

pub returns : goal.returns
returns g c =
    let m = c.processor.invariant in
    let visit = visited m.0 m.1 refl c.in_ok-held.ensures.entered c.give_entered_book.ensures in
    rw (← c.processor.view_is) (cutting_visit_done visit c.in_ok-cut.ensures.ok)
