use Rattle.std.proofs.Common.{◌≡◌, ◌<◌, inl, inr, length, slice_get, slice_index_or, slice_set, subst, sym, refl, ap, ◌∙◌, arith}
use Rattle.std.proofs.lemmas.Bool.{cases_eq}
use Rattle.std.proofs.lemmas.Option.{same_Some, slice_get-get_or, slice_get_within}
use Rattle.base.proofs.SliceSets.{slice_get-set_other, slice_get-set_same}
use Rattle.judge.specs.declared.kept_store.KeptStore.{KeptStore}
use Rattle.judge.specs.MovedCuts.{IsMovedStore}
use Rattle.judge.proofs.moved_cuts.MovingCuts.{moving_kept_on, moving_kept_same, moving_store_longer}
use Rattle.judge.proofs.moved_cuts.MovedCuts.move_stores.Goals as goal

abbrev nothing : KeptStore
nothing = record { place = 0; value = 0; cut = 0 }

pub loop-index-init : goal.loop-index-init
loop-index-init c = record {
  more = moving_kept_same c.args.self.now.cuts;
  moved = c.requires;
  before = λ m x lt at. absurd (omega arith);
  behind = λ m le. refl;
}

pub loop-index-preserved : goal.loop-index-preserved
loop-index-preserved c =
    let stores = c.loop-index.stores in
    let index = c.loop-index.index in
    let long = c.loop-index.auto.stores in
    let old = c.loop-index.invariant in
    let x = slice_index_or stores index nothing in
    let y : KeptStore = record { place = x.place; value = x.value; cut = c.in_ok-cut.cut } in
    let within : index < length stores = omega (arith, c.loop-index-test.true) in
    let at = slice_get-get_or stores index nothing within in
    let more = c.place_of.ensures.more in
    let placed = c.in_ok-cut.ensures.moved in
    record {
      more = moving_kept_on c.args.self.now.cuts c.loop-index.self.cuts c.place_of.new.self.cuts old.more more;
      moved = placed.0;
      before = λ m z lt there. elim (cases_eq m index) [
        | inl same ↦
            (let one : x ≡ z = same_Some x z
            (sym at ∙ (old.behind index (omega arith) ∙ (ap (slice_get c.args.stores.now) (sym same) ∙ there))) in (
              y,
              ap (slice_get (slice_set stores index y)) same ∙ slice_get-set_same stores index y within,
              subst (λ w. IsMovedStore c.args.old.now c.place_of.new.self.cuts w y) one
                  (record { place = refl; value = refl; cut = placed.1 }),
            ))
        | inr isnt ↦
            (let was = old.before m z (omega arith) there in (
              was.0,
              slice_get-set_other stores index m y isnt ∙ was.1,
              moving_store_longer c.args.old.now c.loop-index.self.cuts c.place_of.new.self.cuts z was.0 more was.2,
            ))
      ];
      behind = λ m le. slice_get-set_other stores index m y (omega arith) ∙ old.behind m (omega arith);
    }

pub returns-clause-stores : goal.returns-clause-stores
returns-clause-stores c = record {
  long = c.loop-index.auto.stores;
  each = λ m x at. c.loop-index.invariant.before m x
      (let lt = slice_get_within c.args.stores.now m x at in let over = c.loop-index-test.false in omega arith) at;
}
