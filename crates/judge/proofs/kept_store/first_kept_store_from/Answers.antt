use Rattle.std.proofs.Common.{◌≡◌, ℕ, ◌<◌, ◌≤◌, inl, inr, List, length, slice_index_or, subst, nat_lt, true, false, rules, arith}
use Rattle.std.proofs.lemmas.Bool.{cases_eq, ltb-true, ltb-false}
use Rattle.std.proofs.lemmas.Option.{slice_get-get_or, slice_get_within, get_or_from_slice_get}
use Rattle.std.proofs.lemmas.List.Sorted.{IsPartitionPoint-from_clause, IsPartitionedBy-ltb}
use Rattle.std.specs.List.Sorted.{IsNonDecreasingBy, IsPartitionPoint}
use Rattle.base.specs.InOrderOnce.{InOrder}
use Rattle.judge.specs.declared.kept_store.KeptStore.{KeptStore}
use Rattle.judge.specs.KeptInPasts.{IsKeptStoreIndex}
use Rattle.judge.proofs.kept_store.first_kept_store_from.Goals as goal

-- the places do not fall
rises : (stores : List KeptStore) → InOrder (λ (x y : KeptStore). x.place < y.place) stores
    → IsNonDecreasingBy (λ (x : KeptStore). x.place) stores
rises stores up i j d le lt = elim (cases_eq i j) [
  | inl is ↦ subst (λ k. (slice_index_or stores i d).place ≤ (slice_index_or stores k d).place) is (omega arith)
  | inr isnt ↦
      (let before = up i j (slice_index_or stores i d) (slice_index_or stores j d) (omega arith)
      (slice_get-get_or stores i d (omega arith)) (slice_get-get_or stores j d lt) in
      omega arith)
]

-- the stores below the limit stand before this place
abbrev IsPoint : List KeptStore → ℕ → ℕ → Type 0
IsPoint stores limit i =
    IsPartitionPoint (λ (x : KeptStore). nat_lt x.place limit ≡ true) (λ (x : KeptStore). nat_lt x.place limit ≡ false) stores i

-- so they begin there
begins : (stores : List KeptStore) (limit i : ℕ) → IsPoint stores limit i → i ≤ length stores → IsKeptStoreIndex stores limit i
begins stores limit i point le = record {
  below = λ n x lt at.
      (let is = point.0 n x (omega arith) lt in
      let same = get_or_from_slice_get stores n x x at in
      ltb-true x.place limit (subst (λ (y : KeptStore). nat_lt y.place limit ≡ true) same is));
  above = λ n x from at.
      (let is = point.1 n x from (slice_get_within stores n x at) in
      let same = get_or_from_slice_get stores n x x at in
      ltb-false x.place limit (subst (λ (y : KeptStore). nat_lt y.place limit ≡ false) same is));
  within = le;
}

pub returns : goal.returns
returns c =
    let parted = IsPartitionedBy-ltb (λ (x : KeptStore). x.place) c.args.stores.now c.args.limit (rises c.args.stores.now c.requires) in
    let point = IsPartitionPoint-from_clause (λ (x : KeptStore). nat_lt x.place c.args.limit) _ _
    c.partition_point.ensures.partitioned parted (λ a r q k. search rules) in
    begins c.args.stores.now c.args.limit c.partition_point.result point c.partition_point.ensures.bound
