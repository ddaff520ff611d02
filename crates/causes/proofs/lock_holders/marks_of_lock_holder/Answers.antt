use Rattle.std.proofs.Common.{◌↔◌, ◌+◌, Bool, IsTrue, List, false, slice_index_or, subst, sym, ap, ◌∙◌, arith}
use Rattle.std.proofs.lemmas.Option.{slice_get-get_or}
use Rattle.journal.specs.declared.event.Kind.TheVariants.{Load}
use Rattle.journal.specs.DidEvent.{event}
use Rattle.judge.proofs.VecItems.{vec_items_written}
use Rattle.causes.proofs.StandingWaits.{StandingWaitHoldsBelow, standing_wait_holds_whole, standing_wait_mark_next}
use Rattle.causes.proofs.lock_holders.marks_of_lock_holder.Goals as goal

pub loop-place-preserved : goal.loop-place-preserved
loop-place-preserved c =
    let j = c.args.events.now in
    let p = c.args.by in
    let n = c.loop-place.place in
    let e = slice_index_or j n (event 0 (Load 0 0)) in
    let at = slice_get-get_or j n (event 0 (Load 0 0)) c.loop-place-test.true in
    let step = c.mark_lock_of_holder.ensures in
    let was = c.loop-place.marks.items in
    let now = c.mark_lock_of_holder.new.marks in
    let old = c.loop-place.invariant in
    let len = c.deref_mut.ensures.len in
    record {
      long = old.long;
      marks = λ m lt. subst (λ xs. IsTrue (slice_index_or xs m false) ↔ StandingWaitHoldsBelow j p m (n + 1))
          (sym (vec_items_written now _ c.loop-place.marks.len (step.long ∙ len)))
          (standing_wait_mark_next j p m n e at (slice_index_or was m false) (slice_index_or now m false)
          (step.acquired m (let long = old.long in omega arith)) (step.released m (let long = old.long in omega arith))
          (λ acquires releases. step.kept m acquires releases
          ∙ ap (λ (xs : List Bool). slice_index_or xs m false) c.deref_mut.ensures.value)
          (old.marks m lt));
    }

pub returns-clause-marks : goal.returns-clause-marks
returns-clause-marks c = λ l lt.
    let whole = standing_wait_holds_whole c.args.events.now c.args.by l c.loop-place.place c.loop-place-test.false in
    let marks = c.loop-place.invariant.marks l lt in
    (λ is. whole.0 (marks.0 is), λ holds. marks.1 (whole.1 holds))
