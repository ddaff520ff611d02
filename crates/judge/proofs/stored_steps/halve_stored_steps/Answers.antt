use Rattle.std.proofs.Common.{◌≡◌, ℕ, ◌<◌, ◌≤◌, inl, inr, List, Some, length, slice_get, slice_index_or, subst, sym, nat_lt, true, false, rules, arith}
use Rattle.std.proofs.lemmas.Bool.{cases_eq, ltb-true, ltb-false}
use Rattle.std.proofs.lemmas.Option.{slice_get-get_or, slice_get_within, get_or_from_slice_get}
use Rattle.std.proofs.lemmas.List.Sorted.{IsPartitionPoint-from_clause, IsPartitionedBy-ltb}
use Rattle.std.specs.List.Sorted.{IsNonDecreasingBy, IsPartitionPoint}
use Rattle.base.specs.InOrderOnce.{InOrder}
use Rattle.judge.specs.declared.stored_steps.StoredStep.{StoredStep}
use Rattle.judge.proofs.StoredBefore.{stored_before_all, stored_before_from}
use Rattle.judge.proofs.stored_steps.halve_stored_steps.Goals as goal

-- the places do not fall
rises : (steps : List StoredStep) → InOrder (λ (x y : StoredStep). x.place ≤ y.place) steps
    → IsNonDecreasingBy (λ (x : StoredStep). x.place) steps
rises steps up i j d le lt = elim (cases_eq i j) [
  | inl is ↦ subst (λ k. (slice_index_or steps i d).place ≤ (slice_index_or steps k d).place) is (omega arith)
  | inr isnt ↦ up i j (slice_index_or steps i d) (slice_index_or steps j d) (omega arith)
      (slice_get-get_or steps i d (omega arith)) (slice_get-get_or steps j d lt)
]

-- the steps below the limit stand before this index
abbrev IsPoint : List StoredStep → ℕ → ℕ → Type 0
IsPoint steps limit i =
    IsPartitionPoint (λ (x : StoredStep). nat_lt x.place limit ≡ true) (λ (x : StoredStep). nat_lt x.place limit ≡ false) steps i

low : (steps : List StoredStep) (limit i : ℕ) → IsPoint steps limit i → i ≤ length steps → (n : ℕ) (x : StoredStep) → n < i
    → slice_get steps n ≡ Some x → x.place < limit
low steps limit i point le n x lt at =
    let is = point.0 n x (omega arith) lt in
    let same = get_or_from_slice_get steps n x x at in
    ltb-true x.place limit (subst (λ (y : StoredStep). nat_lt y.place limit ≡ true) same is)

high : (steps : List StoredStep) (limit i : ℕ) → IsPoint steps limit i → (n : ℕ) (x : StoredStep) → i ≤ n
    → slice_get steps n ≡ Some x → limit ≤ x.place
high steps limit i point n x from at =
    let is = point.1 n x from (slice_get_within steps n x at) in
    let same = get_or_from_slice_get steps n x x at in
    ltb-false x.place limit (subst (λ (y : StoredStep). nat_lt y.place limit ≡ false) same is)

pub returns-then-first-steps : goal.returns-then-first-steps
returns-then-first-steps c =
    let steps = c.args.steps.now in
    let limit = c.args.limit in
    let first = c.partition_point-first.result in
    let d : StoredStep = record { place = 0; before = record { records = 0; words = 0 } } in
    let parted = IsPartitionedBy-ltb (λ (x : StoredStep). x.place) c.args.steps.now c.args.limit (rises c.args.steps.now c.requires) in
    let point = IsPartitionPoint-from_clause (λ (x : StoredStep). nat_lt x.place c.args.limit) _ _
    c.partition_point-first.ensures.partitioned parted (λ a r q k. search rules) in
    let at = slice_get-get_or steps first d c.if-first-steps.true in
    sym (stored_before_from steps c.args.all limit first (slice_index_or steps first d)
    (low steps limit first point c.partition_point-first.ensures.bound) at
    (high steps limit first point first (slice_index_or steps first d) (omega arith) at))

pub returns-else-first-steps : goal.returns-else-first-steps
returns-else-first-steps c =
    let steps = c.args.steps.now in
    let limit = c.args.limit in
    let first = c.partition_point-first.result in
    let parted = IsPartitionedBy-ltb (λ (x : StoredStep). x.place) c.args.steps.now c.args.limit (rises c.args.steps.now c.requires) in
    let point = IsPartitionPoint-from_clause (λ (x : StoredStep). nat_lt x.place c.args.limit) _ _
    c.partition_point-first.ensures.partitioned parted (λ a r q k. search rules) in
    sym (stored_before_all steps c.args.all limit
    (λ x h. low steps limit first point c.partition_point-first.ensures.bound h.0 x
    (let within = slice_get_within steps h.0 x h.1 in let over = c.if-first-steps.false in omega arith) h.1))
