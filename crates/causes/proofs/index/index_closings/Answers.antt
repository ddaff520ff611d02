use Rattle.std.proofs.Common.{ℕ, ◌+◌, ◌∙◌, length, slice_index_or, subst, sym, refl, arith}
use Rattle.std.specs.Global.{Vec}
use Rattle.std.proofs.lemmas.Option.{slice_get-get_or, slice_get_read}
use Rattle.journal.specs.declared.event.Kind.TheVariants.{Load}
use Rattle.journal.specs.DidEvent.{event}
use Rattle.causes.proofs.LookedUpIndex.{AreLookedUpRowsBelow, looked_up_rows_all, looked_up_rows_next, looked_up_rows_others, looked_up_rows_start}
use Rattle.causes.proofs.index.index_closings.Goals as goal
use Rattle.causes.proofs.index.index_closings.Goals.{then-is_index_closing+in_ok-push, else-is_index_closing}

pub loop-place-init : goal.loop-place-init
loop-place-init c =
    let rows = c.in_ok-closings.closings in
    looked_up_rows_start c.args.events.now rows.items (sym rows.ok.0 ∙ c.in_ok-closings.ensures.long) c.in_ok-closings.ensures.empty

pub index_mut-requires : goal.index_mut-requires
index_mut-requires c =
    let events = c.args.events.now in
    let n = c.loop-place.place in
    let at = slice_get-get_or events n (event 0 (Load 0 0)) c.loop-place-test.true in
    let lt = c.requires n (slice_index_or events n (event 0 (Load 0 0))) at in
    let long = c.loop-place.invariant.long in
    omega (arith, c.loop-place.closings.ok.0)

pub loop-place-preserved : goal.loop-place-preserved
loop-place-preserved c =
    let events = c.args.events.now in
    let n = c.loop-place.place in
    let e = slice_index_or events n (event 0 (Load 0 0)) in
    let at = slice_get-get_or events n (event 0 (Load 0 0)) c.loop-place-test.true in
    let rows = c.loop-place.closings.items in
    let old = c.loop-place.invariant in
    let lt = c.requires n e at in
    let long = old.long in
    elim c.if-is_index_closing.branch [
      | then-is_index_closing+in_ok-push w ↦
          (let row = slice_get_read rows (length rows) e.processor w.index_mut.result.now refl (omega arith) w.index_mut.ensures.value in
          subst (λ (v : Vec (Vec ℕ)). AreLookedUpRowsBelow events (n + 1) v.items) (sym w.closings-is)
          (looked_up_rows_next events n e rows w.index_mut.result.now w.push.new.self at (sym w.if-is_index_closing.ensures) row
          w.in_ok-push.ensures.items old))
      | else-is_index_closing w ↦
          subst (λ (v : Vec (Vec ℕ)). AreLookedUpRowsBelow events (n + 1) v.items) (sym w.closings-is)
          (looked_up_rows_others events n e rows at (sym w.if-is_index_closing.ensures) old)
    ]

pub returns : goal.returns
returns c =
    let top = c.loop-place.auto.place-end in
    let end = c.loop-place-test.false in
    looked_up_rows_all c.args.events.now c.loop-place.place c.loop-place.closings.items (omega arith) c.loop-place.invariant
