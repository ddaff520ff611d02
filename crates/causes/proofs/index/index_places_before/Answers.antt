use Rattle.std.proofs.Common.{◌≡◌, ℕ, ◌<◌, Bool, inl, inr, List, slice_index_or, subst, sym, nat_lt, true, false, rules, arith}
use Rattle.std.proofs.lemmas.Bool.{cases_eq, cases_lt, lt-ltb, ltb-false, ltb-true}
use Rattle.std.proofs.lemmas.Option.{slice_get-get_or, slice_get_within, get_or_from_slice_get}
use Rattle.std.proofs.lemmas.List.Sorted.{IsPartitionPoint-from_clause}
use Rattle.std.specs.List.Sorted.{IsPartitionedBy}
use Rattle.base.specs.InOrderOnce.{InOrder}
use Rattle.causes.proofs.index.index_places_before.Goals as goal

-- whether it stands before the place
abbrev is_before : ℕ → ℕ → Bool
is_before place i = nat_lt i place

-- those that do stand in front
in_front : (places : List ℕ) (place : ℕ) → InOrder (λ i m. i < m) places → IsPartitionedBy (is_before place) places
in_front places place rise i j d le lt is = elim (cases_eq i j) [
  | inl same ↦ subst (λ k. is_before place (slice_index_or places k d) ≡ true) (sym same) is
  | inr isnt ↦
      (let below = rise i j (slice_index_or places i d) (slice_index_or places j d) (omega arith)
      (slice_get-get_or places i d (omega arith)) (slice_get-get_or places j d lt) in
      let last = ltb-true (slice_index_or places j d) place is in
      lt-ltb (slice_index_or places i d) place (omega arith))
]

pub returns-clause-before : goal.returns-clause-before
returns-clause-before c = λ n i at.
    let places = c.args.places.now in
    let place = c.args.place in
    let point = IsPartitionPoint-from_clause (is_before place) _ _
    c.partition_point.ensures.partitioned (in_front places place c.requires) (λ a r q k. search rules) in
    let inside = slice_get_within places n i at in (
      (λ lt. ltb-true i place
          (subst (λ k. is_before place k ≡ true) (get_or_from_slice_get places n i i at) (point.0 n i (omega arith) lt))),
      λ below. elim (cases_lt n c.partition_point.result) [
        | inl lt ↦ lt
        | inr le ↦
            (let behind = ltb-false i place
            (subst (λ k. is_before place k ≡ false) (get_or_from_slice_get places n i i at) (point.1 n i le inside)) in
            absurd (omega arith))
      ],
    )
