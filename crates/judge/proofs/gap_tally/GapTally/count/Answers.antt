use Rattle.std.proofs.Common.{◌≡◌, ℕ, ◌+◌, ◌≤◌, min, List, count_by, nat_lt, subst, sym, ap, ◌∙◌, arith}
use Rattle.base.specs.InOrderOnce.{InOrder}
use Rattle.judge.specs.GapTally.{gap_tally_numbers, is_gap_tally_between}
use Rattle.judge.proofs.TallyRows.{tally_row_between_sum}
use Rattle.judge.proofs.gap_tally.GapTally.count.Goals as goal

pub below-requires : goal.below-requires
below-requires c = subst (InOrder (λ (k m : ℕ). k ≤ m)) (sym c.numbers-numbers.ensures) c.requires.rising

pub below-requires-2 : goal.below-requires-2
below-requires-2 c = subst (InOrder (λ (k m : ℕ). k ≤ m)) (sym c.numbers-numbers.ensures) c.requires.rising

-- the numbers below both limits, and those between
counted : (row : List ℕ) (from to least : ℕ) (first second : List ℕ) (a b : ℕ) → least ≡ min from to → row ≡ first
    → row ≡ second
    → a ≡ count_by (λ k. nat_lt k to) first → b ≡ count_by (λ k. nat_lt k least) second
    → count_by (is_gap_tally_between from to) row + b ≡ a
counted row from to least first second a b min_is is same up low =
    let sum = tally_row_between_sum row from to in
    let one : a ≡ count_by (λ k. nat_lt k to) row = up ∙ ap (count_by (λ k. nat_lt k to)) (sym is) in
    let two : b ≡ count_by (λ k. nat_lt k (min from to)) row =
    low ∙ ap (λ (z : ℕ). count_by (λ k. nat_lt k z) second) min_is
    ∙ ap (count_by (λ k. nat_lt k (min from to))) (sym same) in
    omega arith

sum_of : (c : goal.After-below-2)
    → count_by (is_gap_tally_between c.args.from c.args.to) (gap_tally_numbers c.args.self.now c.args.row) + c.below-2.result
    ≡ c.below.result
sum_of c =
    let row = gap_tally_numbers c.args.self.now c.args.row in
    counted row c.args.from c.args.to c.min.result c.numbers-numbers.result.now c.numbers-numbers.result.now
    c.below.result c.below-2.result c.min.ensures (sym c.numbers-numbers.ensures) (sym c.numbers-numbers.ensures)
    c.below.ensures c.below-2.ensures

pub overflow_sub-result : goal.overflow_sub-result
overflow_sub-result c = let sum = sum_of c in omega arith

pub returns : goal.returns
returns c = let sum = sum_of c in omega arith
