use Rattle.std.proofs.Common.{◌≡◌, ℕ, ◌-◌, ◌<◌, ◌≤◌, inl, inr, List, Some, length, slice_get, slice_index_or, subst, nat_lt, true, false, rules, arith}
use Rattle.std.proofs.lemmas.Bool.{cases_eq, ltb-true, ltb-false}
use Rattle.std.proofs.lemmas.Option.{slice_get-get_or, slice_get_within, get_or_from_slice_get}
use Rattle.std.proofs.lemmas.List.Sorted.{IsPartitionPoint-from_clause, IsPartitionedBy-ltb}
use Rattle.std.specs.List.Sorted.{IsNonDecreasingBy, IsPartitionPoint}
use Rattle.base.specs.InOrderOnce.{InOrder}
use Rattle.causes.specs.declared.store_rows.NumberedStore.{NumberedStore}
use Rattle.causes.specs.NumberedStores.{IsLastNumberedStoreUnder}
use Rattle.causes.proofs.store_rows.last_store_of_row_under.Goals as goal

-- the intervals do not fall
rises : (stores : List NumberedStore) → InOrder (λ (s t : NumberedStore). s.interval ≤ t.interval) stores
    → IsNonDecreasingBy (λ (s : NumberedStore). s.interval) stores
rises stores up i j d le lt = elim (cases_eq i j) [
  | inl is ↦ subst (λ k. (slice_index_or stores i d).interval ≤ (slice_index_or stores k d).interval) is (omega arith)
  | inr isnt ↦ up i j (slice_index_or stores i d) (slice_index_or stores j d) (omega arith)
      (slice_get-get_or stores i d (omega arith)) (slice_get-get_or stores j d lt)
]

-- the stores of intervals below the limit stand before this place
abbrev IsPoint : List NumberedStore → ℕ → ℕ → Type 0
IsPoint stores limit i =
    IsPartitionPoint (λ (s : NumberedStore). nat_lt s.interval limit ≡ true)
    (λ (s : NumberedStore). nat_lt s.interval limit ≡ false) stores i

-- from there on there is none
above : (stores : List NumberedStore) (limit i n : ℕ) (s : NumberedStore) → IsPoint stores limit i → i ≤ n
    → slice_get stores n ≡ Some s → limit ≤ s.interval
above stores limit i n s point le at =
    let within = slice_get_within stores n s at in
    let is = point.1 n s le within in
    let same = get_or_from_slice_get stores n s s at in
    ltb-false s.interval limit (subst (λ (x : NumberedStore). nat_lt x.interval limit ≡ false) same is)

found : (stores : List NumberedStore) (limit i : ℕ) (d : NumberedStore) → IsPoint stores limit i → 0 < i
    → i ≤ length stores → IsLastNumberedStoreUnder stores limit (slice_index_or stores (i - 1) d)
found stores limit i d point some le = record {
  index = i - 1;
  at = slice_get-get_or stores (i - 1) d (omega arith);
  under = ltb-true (slice_index_or stores (i - 1) d).interval limit (point.0 (i - 1) d (omega arith) (omega arith));
  later = λ n t lt at. above stores limit i n t point (omega arith) at;
}

pub returns-then-count-eq0 : goal.returns-then-count-eq0
returns-then-count-eq0 c =
    let parted = IsPartitionedBy-ltb (λ (s : NumberedStore). s.interval) c.args.stores.now c.args.limit
    (rises c.args.stores.now c.requires) in
    let point = IsPartitionPoint-from_clause (λ (s : NumberedStore). nat_lt s.interval c.args.limit) _ _
    c.partition_point-count.ensures.partitioned parted (λ a r q k. search rules) in
    λ n s at. above c.args.stores.now c.args.limit c.partition_point-count.result n s point (omega arith) at

pub returns-else-count-eq0 : goal.returns-else-count-eq0
returns-else-count-eq0 c =
    let parted = IsPartitionedBy-ltb (λ (s : NumberedStore). s.interval) c.args.stores.now c.args.limit
    (rises c.args.stores.now c.requires) in
    let point = IsPartitionPoint-from_clause (λ (s : NumberedStore). nat_lt s.interval c.args.limit) _ _
    c.partition_point-count.ensures.partitioned parted (λ a r q k. search rules) in
    found c.args.stores.now c.args.limit c.partition_point-count.result (record { place = 0; interval = 0 })
    point (omega arith) c.partition_point-count.ensures.bound
