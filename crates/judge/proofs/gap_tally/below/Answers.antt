use Rattle.std.proofs.Common.{◌≡◌, ℕ, ◌-◌, ◌<◌, ◌≤◌, inl, inr, List, Some, length, slice_get, slice_index_or, count_by, nat_lt, subst, sym, arith}
use Rattle.std.proofs.lemmas.Bool.{cases_eq, lt-ltb}
use Rattle.std.proofs.lemmas.Option.{slice_get-get_or, slice_get_within, get_or_from_slice_get}
use Rattle.base.specs.InOrderOnce.{InOrder}
use Rattle.judge.proofs.TallyRows.{tally_row_count_point}
use Rattle.judge.proofs.gap_tally.below.Goals as goal

-- none of the numbers is above the last one
to_last : (row : List ℕ) (n k d : ℕ) → InOrder (λ (x y : ℕ). x ≤ y) row → slice_get row n ≡ Some k
    → k ≤ slice_index_or row (length row - 1) d
to_last row n k d up at =
    let within = slice_get_within row n k at in
    elim (cases_eq n (length row - 1)) [
      | inl is ↦
          (let same : slice_index_or row n d ≡ k = get_or_from_slice_get row n k d at in
          subst (λ i. k ≤ slice_index_or row i d) is (omega (arith, same)))
      | inr isnt ↦ up n (length row - 1) k (slice_index_or row (length row - 1) d) (omega arith) at
          (slice_get-get_or row (length row - 1) d (omega arith))
    ]

-- where the last number is below the limit, all are
all_below : (row : List ℕ) (limit d : ℕ) → InOrder (λ (x y : ℕ). x ≤ y) row
    → slice_index_or row (length row - 1) d < limit → length row ≡ count_by (λ k. nat_lt k limit) row
all_below row limit d up less =
    sym (tally_row_count_point row limit (length row) (omega arith)
    (λ n k lt at. lt-ltb k limit (let le = to_last row n k d up at in omega arith))
    (λ n k le at. absurd (let within = slice_get_within row n k at in omega arith)))

pub returns-then-row-count : goal.returns-then-row-count
returns-then-row-count c = all_below c.args.row.now c.args.limit _ c.requires c.if-row-count.true
