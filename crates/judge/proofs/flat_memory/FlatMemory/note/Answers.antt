use Rattle.std.proofs.Common.{◌≡◌, ℕ, ◌+◌, ◌≤◌, [], ◌∷◌, ◌++◌, List, length, subst, sym}
use Rattle.std.specs.Prelude.{Result, Ok, Err, OnOk, vec_len}
use Rattle.journal.specs.declared.event.Event.{Event}
use Rattle.journal.specs.declared.event.Kind.TheVariants.{Store}
use Rattle.journal.specs.DidEvent.{did, event}
use Rattle.judge.specs.declared.flat_memory.FlatMemory.{FlatMemory}
use Rattle.judge.specs.LastFlatStores.{HasLastFlatStores}
use Rattle.judge.specs.SparseTables.{IsSparseWith, sparse_at, sparse_room}
use Rattle.judge.proofs.Flattening.{flattened_store_others, flattened_stores_next}
use Rattle.judge.proofs.LongerSparseTables.{longer_sparse_next, longer_sparse_same}
use Rattle.judge.proofs.flat_memory.FlatMemory.note.Goals as goal

-- after a store
stored : (j : List Event) (n p a v : ℕ) (x y : FlatMemory) → sparse_room y.stores ≡ sparse_room x.stores
    → vec_len y.stores.kept ≤ vec_len x.stores.kept + 1
    → IsSparseWith x.stores y.stores a (record { by = p; place = length j; value = v }) → HasLastFlatStores j n x
    → HasLastFlatStores (did j p (Store a v)) n y
stored j n p a v x y room few written is = record {
  sparse = longer_sparse_next j (event p (Store a v)) x.stores y.stores written.sparse room few is.sparse;
  stores = flattened_stores_next j p a v n written is.stores;
}

-- what success gives gives more
given : (E P Q : Type 0) (r : Result (Unit {0}) E) → (P → Q) → OnOk r P → OnOk r Q
given E P Q (Ok x) f p = f p
given E P Q (Err e) f p = tt

pub returns-in-Store : goal.returns-in-Store
returns-in-Store c =
    given _ _ _ c.set.result
    (λ written j n is range long. (let x = c.args.self.now in
    let y : FlatMemory = record { stores = c.set.new.self } in
    let a = c.in-Store.address in
    let v = c.in-Store.value in
    let p = c.args.event.processor in
    subst (λ k. HasLastFlatStores (j ++ event p k ∷ []) n y) (sym c.in-Store.is)
    (stored j n p a v x y c.set.ensures.room c.set.ensures.few
    (subst (λ m. IsSparseWith x.stores y.stores a (record { by = p; place = m; value = v })) (sym long) written) is)))
    c.set.ensures.set

pub returns-in_default : goal.returns-in_default
returns-in_default c = λ j n is range long.
    let x = c.args.self.now in
    let e = c.args.event in
    record {
      sparse = longer_sparse_same j e x.stores is.sparse;
      stores = λ a lt. flattened_store_others j e a (sparse_at x.stores a) (λ v. c.in_default.not-Store a v) (is.stores a lt);
    }
