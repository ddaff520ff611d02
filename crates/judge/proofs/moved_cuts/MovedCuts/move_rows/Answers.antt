use Rattle.std.proofs.Common.{◌≡◌, ◌<◌, inl, inr, length, slice_get, slice_index_or, slice_set, subst, sym, refl, ap, ◌∙◌, arith}
use Rattle.std.specs.Global.{Vec}
use Rattle.std.specs.Vec.{with_items}
use Rattle.std.proofs.lemmas.Bool.{cases_eq}
use Rattle.std.proofs.lemmas.Option.{same_Some, slice_get_read, slice_get_within}
use Rattle.base.proofs.SliceSets.{slice_get-set_other, slice_get-set_same}
use Rattle.judge.specs.declared.kept_store.KeptStore.{KeptStore}
use Rattle.judge.specs.MovedCuts.{AreMovedStores}
use Rattle.judge.proofs.moved_cuts.MovingCuts.{moving_stores_longer, moving_with_items}
use Rattle.judge.proofs.moved_cuts.MovedCuts.move_rows.Goals as goal

pub loop-index-preserved : goal.loop-index-preserved
loop-index-preserved c =
    let rows = c.loop-index.rows in
    let index = c.loop-index.index in
    let long = c.loop-index.auto.rows in
    let old = c.loop-index.invariant in
    let x = c.index-rows-index.result in
    let stores = c.move_stores.new.stores in
    let y = with_items (slice_index_or rows index x) stores in
    let within : index < length rows = omega (arith, c.loop-index-test.true) in
    let at = slice_get_read rows (length rows) index x refl within c.index-rows-index.is in
    let done = c.in_ok-move_stores.ensures in
    let cuts = c.move_stores.new.self.cuts in
    let v = slice_index_or rows index x in
    let all = subst (λ xs. AreMovedStores c.args.old.now cuts xs stores) c.deref_mut.ensures.value done.stores in
    let moved : AreMovedStores c.args.old.now cuts x.items y.items =
    subst (λ (w : Vec KeptStore). AreMovedStores c.args.old.now cuts w.items y.items) (sym c.index-rows-index.is)
    (subst (AreMovedStores c.args.old.now cuts v.items) (sym (moving_with_items v stores all.long)) all) in
    record {
      moved = done.moved;
      before = λ n z lt there. elim (cases_eq n index) [
        | inl same ↦
            (let one : x ≡ z = same_Some x z
            (sym at ∙ (old.behind index (omega arith) ∙ (ap (slice_get c.args.rows.now) (sym same) ∙ there))) in (
              y,
              ap (slice_get (slice_set rows index y)) same ∙ slice_get-set_same rows index y within,
              subst (λ (w : Vec KeptStore). AreMovedStores c.args.old.now cuts w.items y.items) one moved,
            ))
        | inr isnt ↦
            (let was = old.before n z (omega arith) there in (
              was.0,
              slice_get-set_other rows index n y isnt ∙ was.1,
              moving_stores_longer c.args.old.now c.loop-index.self.cuts cuts z.items was.0.items done.more was.2,
            ))
      ];
      behind = λ n le. slice_get-set_other rows index n y (omega arith) ∙ old.behind n (omega arith);
    }

pub returns-clause-rows : goal.returns-clause-rows
returns-clause-rows c = record {
  long = c.loop-index.auto.rows;
  each = λ n x at. c.loop-index.invariant.before n x
      (let lt = slice_get_within c.args.rows.now n x at in let over = c.loop-index-test.false in omega arith) at;
}
