-- The goals are those of each call that enters, over records of this one's steps: proofs/Visiting has what they share.
use Rattle.std.proofs.Common.{map, refl, sym, subst, arith}
use Rattle.std.proofs.lemmas.Grind.{common_steps}
use Rattle.std.specs.Arc.{arc_value}
use Rattle.std.specs.Option.{option_map}
use Rattle.journal.specs.ClosingKinds.{closing_awaits_kind, closing_kind}
use Rattle.cluster.specs.Copies.MarkedCopiesAndHarvests.{AreHarvestsOfCopies}
use Rattle.cluster.specs.Copies.Local.{Local}
use Rattle.cluster.specs.SeatedProcessor.{seated_processor}
use Rattle.cluster.specs.ClosingCalls.{MayCloseByCall}
use Rattle.cluster.proofs.ClosingVisits.{closing_visit_marked_well, closing_visit_may_close, closing_visit_has_closed, closing_visit_call_answered, Closed, closing_visit_made, closing_visit_sound, closing_visit_done}
use Rattle.cluster.proofs.Visiting.{visit_finds_book, visit_gives_back, visited, visit_left_as}
use Rattle.cluster.proofs.EndedCalls.{ended_call_copies_alike, ended_call_refused_with, ended_call_spent, ended_call_refused, ended_call_sound}
use Rattle.cluster.proofs.cluster.Cluster.close_with.Given as given
use Rattle.cluster.proofs.cluster.Cluster.close_with.Goals as goal
use Rattle.cluster.proofs.cluster.Cluster.close_with.Goals.{After-clear}

pub returns-in_err-held : goal.returns-in_err-held
returns-in_err-held g c =
    let spent = c.in_err-held.ensures.spent in
    rw (ended_call_refused_with _ _ c.from_residual.ensures.1, spent.0, spent.2, ← c.processor.view_is)
    (ended_call_spent c.processor.invariant.0 spent.1)

pub close_in_call-closed-requires-clause-call : goal.close_in_call-closed-requires-clause-call
close_in_call-closed-requires-clause-call g c =
    let m = c.processor.invariant in
    let finds = visit_finds_book m.0 m.1 refl c.in_ok-held.book c.in_ok-held.ensures.finds in
    let may = subst (λ (l : Local). MayCloseByCall l (closing_kind c.args.closing)) (sym c.processor.view_is) c.requires.may in
    rw (c.as_slice-block.ensures.value) (closing_visit_may_close _ m.0 c.in_ok-held.book finds (closing_kind c.args.closing) may)

pub give_entered_book-requires-clause-call : goal.give_entered_book-requires-clause-call
give_entered_book-requires-clause-call g c κs within =
    let m = c.processor.invariant in
    let made = c.close_in_call-closed.ensures in
    let may = subst (λ (l : Local). MayCloseByCall l (closing_kind c.args.closing)) (sym c.processor.view_is) c.requires.may in
    let are =
    subst (λ (l : Local). AreHarvestsOfCopies l.copies (map arc_value c.args.records.items)) (sym c.processor.view_is)
    c.requires.records in
    visit_gives_back m.0 m.1 refl c.in_ok-held.ensures.entered
    (closing_visit_call_answered _ m.0 c.in_ok-held.book (closing_kind c.args.closing) may _ are c.close_in_call-closed.result _ _
    c.as_slice-block.ensures.value made.ok made.err made.full)

pub invariant_of-processor-in_err-closed : goal.invariant_of-processor-in_err-closed
invariant_of-processor-in_err-closed g c =
    let m = c.processor.invariant in
    let visit = visited m.0 m.1 refl c.in_ok-held.ensures.entered c.give_entered_book.ensures in
    (ended_call_sound (visit_left_as visit c.in_err-closed.ensures.err) _ (ended_call_copies_alike _), visit.seated, m.2)

pub returns-in_err-closed : goal.returns-in_err-closed
returns-in_err-closed g c =
    let m = c.processor.invariant in
    let visit = visited m.0 m.1 refl c.in_ok-held.ensures.entered c.give_entered_book.ensures in
    let bad = c.in_err-closed.ensures in
    rw (ended_call_refused_with _ _ c.from_residual-in_err-closed.ensures.1, ← c.processor.view_is)
    (ended_call_refused (visit_left_as visit bad.err) _ _ bad.only bad.full (rw (c.as_slice-block.ensures.value) (omega arith)))

-- the interval was closed
closed : (g : given.Over) (c : After-clear g)
    → let x = c.processor.inside in
    Closed (seated_processor x.chair x.number x.shape x.block.items x.replicas.items x.stored x.time x.held.items (option_map closing_awaits_kind x.awaits))
    c.in_ok-held.book (closing_kind c.args.closing) (map arc_value c.args.records.items) c.give_entered_book.new.chair
closed g c =
    let m = c.processor.invariant in
    let visit = visited m.0 m.1 refl c.in_ok-held.ensures.entered c.give_entered_book.ensures in
    let may = subst (λ (l : Local). MayCloseByCall l (closing_kind c.args.closing)) (sym c.processor.view_is) c.requires.may in
    let are =
    subst (λ (l : Local). AreHarvestsOfCopies l.copies (map arc_value c.args.records.items)) (sym c.processor.view_is)
    c.requires.records in
    let good = c.in_ok-closed.ensures in
    closing_visit_made c.in_ok-closed.field-0 may are visit c.as_slice-block.ensures.value good.ok good.full

pub invariant_of-processor-2 : goal.invariant_of-processor-2
invariant_of-processor-2 g c =
    let t = closed g (goal.at.invariant_of-processor-2 g c).After-clear in (
      rw (
        c.clear.ensures.items,
        c.clean.ensures.copies,
        c.clean.ensures.stored,
        c.tick.ensures,
        c.update_held_by_processor.ensures,
        c.kind.ensures,
        c.awaits-processor-inside.ensures,
      ) (closing_visit_sound t),
      t.visit.seated,
      (let was = c.processor.invariant.2 in let same = c.clear.ensures.capacity in omega arith),
    )

pub returns : goal.returns
returns g c =
    rw (
      c.clear.ensures.items,
      c.clean.ensures.copies,
      c.clean.ensures.stored,
      c.tick.ensures,
      c.update_held_by_processor.ensures,
      c.kind.ensures,
      c.awaits-processor-inside.ensures,
      ← c.processor.view_is,
    ) (closing_visit_done (closed g (goal.at.returns g c).After-clear))

pub clean-requires : goal.clean-requires
clean-requires g c = closing_visit_marked_well _ c.processor.invariant.0

pub close_in_call-closed-requires-clause-short : goal.close_in_call-closed-requires-clause-short
close_in_call-closed-requires-clause-short g c = rw (c.as_slice-block.ensures.value) c.processor.invariant.0.short

pub close_in_call-closed-requires-clause-rising : goal.close_in_call-closed-requires-clause-rising
close_in_call-closed-requires-clause-rising g c = c.requires.records.rising

pub tick-requires-clause-in_range : goal.tick-requires-clause-in_range
tick-requires-clause-in_range g c =
    let long = c.processor.invariant.0.time.long in
    let mine = c.processor.invariant.0.mine in
    omega arith

pub close_in_call-closed-requires-clause-told : goal.close_in_call-closed-requires-clause-told
close_in_call-closed-requires-clause-told g c =
    let m = c.processor.invariant in
    let finds = visit_finds_book m.0 m.1 refl c.in_ok-held.book c.in_ok-held.ensures.finds in
    let may = subst (λ (l : Local). MayCloseByCall l (closing_kind c.args.closing)) (sym c.processor.view_is) c.requires.may in
    let are =
    subst (λ (l : Local). AreHarvestsOfCopies l.copies (map arc_value c.args.records.items)) (sym c.processor.view_is)
    c.requires.records in
    rw (c.as_slice-block.ensures.value) (closing_visit_has_closed _ m.0 c.in_ok-held.book finds (closing_kind c.args.closing) _ may are)

pub tick-requires-clause-fits : goal.tick-requires-clause-fits
tick-requires-clause-fits g c = grind (arith, common_steps)
