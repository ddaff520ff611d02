use Rattle.std.proofs.Common.{◌≡◌, ℕ, ◌<◌, ◌≤◌, Bool, inl, inr, List, Some, slice_get, slice_index, slice_index_or, subst, sym, refl, nat_le, true, false, rules, arith}
use Rattle.std.proofs.lemmas.Bool.{cases_eq, le-leb, leb-false, leb-true}
use Rattle.std.proofs.lemmas.Option.{slice_get-get_or, slice_get_within, get_or_from_slice_get}
use Rattle.std.proofs.lemmas.List.Sorted.{IsPartitionPoint-from_clause}
use Rattle.std.specs.List.Sorted.{IsPartitionedBy, IsPartitionPoint}
use Rattle.base.specs.InOrderOnce.{InOrder}
use Rattle.causes.specs.declared.taking_events.Taking.{Taking}
use Rattle.causes.specs.TakingEvents.{IsFirstTakingEventAbove}
use Rattle.causes.proofs.taking_events.first_taking_event_above.Goals as goal

-- whether p's event at the place isn't in the cut
abbrev is_within : ℕ → ℕ → Taking → Bool
is_within p place x = nat_le (slice_index x.after.items p) place

abbrev IsParted : List Taking → ℕ → ℕ → Type 0
IsParted takings p place =
    InOrder (λ (x y : Taking). slice_index y.after.items p ≤ place → slice_index x.after.items p ≤ place) takings

-- those whose cuts don't have it stand in front
in_front : (takings : List Taking) (p place : ℕ) → IsParted takings p place
    → IsPartitionedBy (is_within p place) takings
in_front takings p place parted i j d le lt is = elim (cases_eq i j) [
  | inl same ↦ subst (λ k. is_within p place (slice_index_or takings k d) ≡ true) (sym same) is
  | inr isnt ↦
      le-leb (slice_index (slice_index_or takings i d).after.items p) place
      (parted i j (slice_index_or takings i d) (slice_index_or takings j d) (omega arith)
      (slice_get-get_or takings i d (omega arith)) (slice_get-get_or takings j d lt)
      (leb-true (slice_index (slice_index_or takings j d).after.items p) place is))
]

-- they stand before place i
abbrev IsPoint : List Taking → ℕ → ℕ → ℕ → Type 0
IsPoint takings p place i =
    IsPartitionPoint (λ (x : Taking). is_within p place x ≡ true) (λ (x : Taking). is_within p place x ≡ false) takings i

under : (takings : List Taking) (p place i : ℕ) → IsPoint takings p place i → (n : ℕ) (x : Taking) → n < i
    → slice_get takings n ≡ Some x → slice_index x.after.items p ≤ place
under takings p place i point n x lt at =
    leb-true (slice_index x.after.items p) place
    (subst (λ (y : Taking). is_within p place y ≡ true) (get_or_from_slice_get takings n x x at)
    (point.0 n x (omega arith) lt))

found : (takings : List Taking) (p place i : ℕ) (x : Taking) → IsPoint takings p place i
    → slice_get takings i ≡ Some x → IsFirstTakingEventAbove takings p place x.place
found takings p place i x point at = record {
  index = i;
  taking = x;
  at = at;
  place_is = refl;
  above =
      leb-false (slice_index x.after.items p) place
      (subst (λ (y : Taking). is_within p place y ≡ false) (get_or_from_slice_get takings i x x at)
      (point.1 i x (omega arith) (slice_get_within takings i x at)));
  below = under takings p place i point;
}

pub returns-then-index-takings : goal.returns-then-index-takings
returns-then-index-takings c =
    let takings = c.args.takings.now in
    let p = c.args.processor in
    let place = c.args.place in
    let point = IsPartitionPoint-from_clause (is_within p place) _ _
    c.partition_point-index.ensures.partitioned (in_front takings p place c.requires.parted) (λ a r q k. search rules) in
    found takings p place c.partition_point-index.result
    (slice_index_or takings c.partition_point-index.result c.index-takings-index.result) point
    (slice_get-get_or takings c.partition_point-index.result c.index-takings-index.result c.if-index-takings.true)

pub returns-else-index-takings : goal.returns-else-index-takings
returns-else-index-takings c =
    let takings = c.args.takings.now in
    let p = c.args.processor in
    let place = c.args.place in
    let point = IsPartitionPoint-from_clause (is_within p place) _ _
    c.partition_point-index.ensures.partitioned (in_front takings p place c.requires.parted) (λ a r q k. search rules) in
    λ n x at. under takings p place c.partition_point-index.result point n x
    (let lt = slice_get_within takings n x at in let end = c.if-index-takings.false in omega arith) at
