use Rattle.std.proofs.Common.{◌≡◌, ℕ, ◌<◌, ◌≤◌, inl, inr, List, Some, slice_get, slice_index_or, subst, nat_lt, true, false, rules, arith, sym}
use Rattle.std.proofs.lemmas.Bool.{cases_eq}
use Rattle.std.proofs.lemmas.Option.{slice_get-get_or, slice_get_within, get_or_from_slice_get}
use Rattle.std.proofs.lemmas.List.Sorted.{IsPartitionPoint-from_clause, IsPartitionedBy-ltb}
use Rattle.std.specs.List.Sorted.{IsNonDecreasingBy, IsPartitionPoint}
use Rattle.base.specs.InOrderOnce.{InOrder}
use Rattle.judge.proofs.TallyRows.{tally_row_count_point}
use Rattle.judge.proofs.gap_tally.halve_gap_tally.Goals as goal

-- the numbers do not fall
rises : (row : List ℕ) → InOrder (λ (k m : ℕ). k ≤ m) row → IsNonDecreasingBy (λ (k : ℕ). k) row
rises row up i j d le lt = elim (cases_eq i j) [
  | inl is ↦ subst (λ k. slice_index_or row i d ≤ slice_index_or row k d) is (omega arith)
  | inr isnt ↦ up i j (slice_index_or row i d) (slice_index_or row j d) (omega arith)
      (slice_get-get_or row i d (omega arith)) (slice_get-get_or row j d lt)
]

-- those below the limit stand before this place
abbrev IsPoint : List ℕ → ℕ → ℕ → Type 0
IsPoint row limit i =
    IsPartitionPoint (λ (k : ℕ). nat_lt k limit ≡ true) (λ (k : ℕ). nat_lt k limit ≡ false) row i

low : (row : List ℕ) (limit i : ℕ) → IsPoint row limit i → (n k : ℕ) → n < i → slice_get row n ≡ Some k
    → nat_lt k limit ≡ true
low row limit i point n k lt at =
    subst (λ (x : ℕ). nat_lt x limit ≡ true) (get_or_from_slice_get row n k k at)
    (point.0 n k (omega arith) lt)

high : (row : List ℕ) (limit i : ℕ) → IsPoint row limit i → (n k : ℕ) → i ≤ n → slice_get row n ≡ Some k
    → nat_lt k limit ≡ false
high row limit i point n k le at =
    subst (λ (x : ℕ). nat_lt x limit ≡ false) (get_or_from_slice_get row n k k at)
    (point.1 n k le (slice_get_within row n k at))

pub returns : goal.returns
returns c =
    let row = c.args.row.now in
    let limit = c.args.limit in
    let parted = IsPartitionedBy-ltb (λ (k : ℕ). k) row limit (rises row c.requires) in
    let point = IsPartitionPoint-from_clause (λ (k : ℕ). nat_lt k limit) _ _
    c.partition_point.ensures.partitioned parted (λ a r q k. search rules) in
    sym (tally_row_count_point row limit c.partition_point.result c.partition_point.ensures.bound
    (low row limit c.partition_point.result point) (high row limit c.partition_point.result point))
