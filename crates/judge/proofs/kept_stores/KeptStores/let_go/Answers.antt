use Rattle.std.proofs.Common.{◌≡◌, ◌<◌, ◌≤◌, ℕ, inl, inr, List, drop, length, subst, sym, ap, ◌∙◌, arith}
use Rattle.std.specs.Prelude.{Result, Ok, Err, OnOk, vec_len}
use Rattle.std.specs.Global.{Vec}
use Rattle.std.proofs.lemmas.Bool.{cases_eq}
use Rattle.journal.specs.declared.event.Event.{Event}
use Rattle.journal.specs.declared.event.Kind.TheVariants.{Store}
use Rattle.journal.specs.WellFormed.{Does}
use Rattle.judge.specs.declared.kept_store.KeptStore.{KeptStore}
use Rattle.judge.specs.declared.kept_stores.KeptStores.{KeptStores}
use Rattle.judge.specs.declared.sparse_table.SparseTable.{SparseTable}
use Rattle.judge.specs.KeptInPasts.{IsKeptStoreIndex}
use Rattle.judge.specs.KeptStores.{AreKeptStores, AreKeptStoresOf, kept_store_row, kept_stores_of}
use Rattle.judge.specs.SparseTables.{IsSparseRowFrom, sparse_room, sparse_row}
use Rattle.judge.specs.StoresInPasts.{IsHiddenInPast}
use Rattle.judge.proofs.NearestRaceSteps.{nearest_race_row_one}
use Rattle.judge.proofs.kept_stores.LettingGo.{letting_go_row}
use Rattle.judge.proofs.kept_stores.KeptStores.let_go.Goals as goal

-- what success gives, success gives
then : {E P Q : Type 0} (r : Result (Unit {0}) E) → OnOk r P → (P → Q) → OnOk r Q
then (Ok x) p f = f p
then (Err e) p f = tt

-- what is kept after a row was shortened
shortened : (j : List Event) (s : KeptStores) (stores : SparseTable (Vec KeptStore)) (a q row limit from : ℕ) → AreKeptStoresOf j s
    → q < s.processors → row ≡ kept_store_row s.processors a q → sparse_room stores ≡ sparse_room s.stores
    → vec_len stores.kept ≡ vec_len s.stores.kept → IsSparseRowFrom s.stores stores row from
    → IsKeptStoreIndex (kept_stores_of s a q) limit from
    → ((i v p : ℕ) → Does j i q (Store a v) → i < limit → p < s.processors → IsHiddenInPast j p a i)
    → AreKeptStoresOf j (record s { stores = stores })
shortened j s stores a q row limit from tells present at room few are first hidden = record {
  cuts = tells.cuts;
  present = tells.present;
  processors = tells.processors;
  kept = record {
    wide = tells.kept.wide;
    sparse = record {
      sparse = are.sparse;
      fits = tells.kept.sparse.fits;
      room = (let was = tells.kept.sparse.room in omega arith);
      few = (let was = tells.kept.sparse.few in omega arith);
    };
    stores = rows;
  };
}
  where
    rows : (b r : ℕ) → r < s.processors
        → AreKeptStores s.processors j s.known.cuts b r (sparse_row stores (kept_store_row s.processors b r))
    rows b r lt = elim (cases_eq (kept_store_row s.processors b r) (kept_store_row s.processors a q)) [
      | inl same ↦
          (let both = nearest_race_row_one s.processors a b q r present lt same in
          let now : drop from (kept_stores_of s a q) ≡ sparse_row stores (kept_store_row s.processors a q) =
          sym (subst (λ m. sparse_row stores m ≡ drop from (sparse_row s.stores m)) at are.now) in
          let next = letting_go_row s.processors j s.known.cuts a q limit from (kept_stores_of s a q)
          (tells.kept.stores a q present) first hidden in
          subst (λ y. AreKeptStores s.processors j s.known.cuts y r (sparse_row stores (kept_store_row s.processors y r))) both.0
          (subst (λ y. AreKeptStores s.processors j s.known.cuts a y (sparse_row stores (kept_store_row s.processors a y))) both.1
          (subst (AreKeptStores s.processors j s.known.cuts a q) now next)))
      | inr other ↦
          subst (AreKeptStores s.processors j s.known.cuts b r)
          (sym (are.others (kept_store_row s.processors b r) (λ is. other (is ∙ at)))) (tells.kept.stores b r lt)
    ]

pub first_kept_store_from-from-requires : goal.first_kept_store_from-from-requires
first_kept_store_from-from-requires c =
    let s = c.args.self.now in
    let j = c.requires.tells.0 in
    (subst (AreKeptStores s.processors j s.known.cuts c.args.address c.args.by) (sym c.stores_of.ensures)
    (c.requires.tells.1.kept.stores c.args.address c.args.by c.requires.by)).rising

pub shorten_sparse_table_row-requires-clause-sparse : goal.shorten_sparse_table_row-requires-clause-sparse
shorten_sparse_table_row-requires-clause-sparse c = c.requires.tells.1.kept.sparse.sparse

pub shorten_sparse_table_row-requires-clause-from : goal.shorten_sparse_table_row-requires-clause-from
shorten_sparse_table_row-requires-clause-from c =
    let s = c.args.self.now in
    let within = c.first_kept_store_from-from.ensures.within in
    let is = c.stores_of.ensures ∙ ap (sparse_row s.stores) (sym c.row-row.ensures.is) in
    subst (λ (xs : List KeptStore). c.first_kept_store_from-from.result ≤ length xs) is within

pub returns-clause-tells : goal.returns-clause-tells
returns-clause-tells c = then c.shorten_sparse_table_row.result c.shorten_sparse_table_row.ensures.shortened (λ are j tells.
    let s = c.args.self.now in
    let limit = c.hidden_in_all_pasts-limit.result in
    let from = c.first_kept_store_from-from.result in
    let first = subst (λ xs. IsKeptStoreIndex xs limit from) c.stores_of.ensures c.first_kept_store_from-from.ensures in
    shortened j s c.shorten_sparse_table_row.new.table c.args.address c.args.by c.row-row.result limit from tells c.requires.by
    c.row-row.ensures.is c.shorten_sparse_table_row.ensures.room c.shorten_sparse_table_row.ensures.few are first
    (c.hidden_in_all_pasts-limit.ensures j tells))
