use Rattle.std.proofs.Common.{[], ◌∷◌, ◌++◌, subst, sym, refl}
use Rattle.std.specs.Prelude.{Result, Ok, Err, OnOk}
use Rattle.journal.specs.DidEvent.{event}
use Rattle.judge.specs.KeptStores.{KeptStoresAreOf}
use Rattle.judge.proofs.LongerSparseTables.{longer_sparse_same}
use Rattle.judge.proofs.kept_stores.KeepingStores.{keeping_rows_others}
use Rattle.judge.proofs.kept_stores.KeptStores.keep.Goals as goal

pub returns-in_default : goal.returns-in_default
returns-in_default c = record {
  cuts = refl;
  processors = refl;
  addresses = refl;
  kept = λ j tells.
      (let s = c.args.self.now in
      let e = c.args.event in
      record {
        wide = tells.kept.wide;
        sparse = longer_sparse_same j e s.stores tells.kept.sparse;
        stores = keeping_rows_others s.processors j e s.known.cuts s.stores c.in_default.not-Store tells.kept.stores;
      });
}

-- what success gives, success gives
then : {E P Q : Type 0} (r : Result (Unit {0}) E) → OnOk r P → (P → Q) → OnOk r Q
then (Ok x) p f = f p
then (Err e) p f = tt

pub returns-in_ok-make_room_for_cuts-in-Store-clause-kept : goal.returns-in_ok-make_room_for_cuts-in-Store-clause-kept
returns-in_ok-make_room_for_cuts-in-Store-clause-kept c = then c.keep_store.result c.keep_store.ensures.kept (λ kept j tells.
    subst (λ k. KeptStoresAreOf (j ++ event c.args.event.processor k ∷ []) c.keep_store.new.self) (sym c.in-Store.is)
    (kept j (c.in_ok-make_room_for_cuts-in-Store.ensures.tells j (c.in_ok-make_room-in-Store.ensures.tells j tells))))
