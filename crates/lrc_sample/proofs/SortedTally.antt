-- Lines put in order.
use Rattle.std.proofs.Common.{◌≡◌, ◌∙◌, ◌+◌, ◌-◌, ◌^◌, ◌<◌, ◌≤◌, ◌==◌, ℕ, zero, suc, inl, inr, Bool, true, false, List, Some, cond, length, slice_get, slice_index_or, ap, sym, refl, add-one, arith}
use Rattle.std.specs.List.{swap, sum_by}
use Rattle.std.specs.List.Sorted.{IsPermutation, IsNonDecreasingBy, IsSortedByKey, IsStableByKey}
use Rattle.std.specs.Ordering.{is_lt, nat_cmp}
use Rattle.std.specs.declared.cmp.Ordering.TheVariants.{Less, Equal, Greater}
use Rattle.std.proofs.lemmas.Bool.{cases_eq, le-ltb}
use Rattle.std.proofs.lemmas.List.Sorted.{IsPermutation-keeps, IsPermutation-swap, sum_by-IsPermutation, ties_still_rise}
use Rattle.std.proofs.lemmas.Option.{slice_get_within, slice_get-get_or}
use Rattle.base.specs.InOrderOnce.{InOrder}
use Rattle.lrc_sample.specs.declared.outcome.SampleOutcome.{SampleOutcome}
use Rattle.lrc_sample.specs.declared.tally.TallyLine.{TallyLine}
use Rattle.lrc_sample.specs.Tally.{IsTallyShown, TallyCountsOutcomes, tally_place_of_seed, tally_times_of, tally_times_of_kind}
use Rattle.lrc_sample.specs.TallyOrder.{IsTallyOrderByFrequency, IsTallyOrderAsSeen, TallyOrderRanksAbove}
use Rattle.lrc_sample.proofs.SwappedItems.{swapped_item_place, swapped_item_place_back, swapped_item_at}
use Rattle.lrc_sample.proofs.TallyNoted.{tally_noted_item_at, tally_noted_times_few}

-- two lines in each other's place
sorted_tally_swapped_counts : (os : List SampleOutcome) (lines : List TallyLine) (i j : ℕ) → i < length lines → j < length lines
    → TallyCountsOutcomes os lines → TallyCountsOutcomes os (swap lines i j)
sorted_tally_swapped_counts os lines i j first second is = record {
  each = λ a has. is.each a (swapped_item_place i j has.0, sym (swapped_item_at lines i j has.0 first second) ∙ has.1);
  once = λ k m a b at_a at_b e.
      let same = is.once (swapped_item_place i j k) (swapped_item_place i j m) a b (sym (swapped_item_at lines i j k first second) ∙ at_a)
      (sym (swapped_item_at lines i j m first second) ∙ at_b) e in
      sym (swapped_item_place_back i j k) ∙ ap (swapped_item_place i j) same ∙ swapped_item_place_back i j m;
  all = λ o has.
      let r = is.all o has in (
        r.0,
        (
          (
            swapped_item_place i j r.1.0.0,
            swapped_item_at lines i j (swapped_item_place i j r.1.0.0) first second ∙ ap (slice_get lines) (swapped_item_place_back i j r.1.0.0)
                ∙ r.1.0.1,
          ),
          r.1.1,
        ),
      );
  sum = sum_by-IsPermutation tally_times_of lines (swap lines i j)
      (IsPermutation-swap lines (swap lines i j) i j first second refl)
      ∙ is.sum;
  kinds = λ kind.
      sum_by-IsPermutation (tally_times_of_kind kind) lines (swap lines i j)
      (IsPermutation-swap lines (swap lines i j) i j first second refl)
      ∙ is.kinds kind;
}

-- lines in another order
pub sorted_tally_moved_counts : (os : List SampleOutcome) (xs ys : List TallyLine) → IsPermutation xs ys → TallyCountsOutcomes os xs → TallyCountsOutcomes os ys
sorted_tally_moved_counts os xs ys moves is = IsPermutation-keeps xs (TallyCountsOutcomes os) is (sorted_tally_swapped_counts os) ys moves

-- two lines in each other's place keep their schedules
sorted_tally_swapped_shown : (schedules : List (List ℕ)) (lines : List TallyLine) (i j : ℕ) → i < length lines
    → j < length lines → IsTallyShown schedules lines → IsTallyShown schedules (swap lines i j)
sorted_tally_swapped_shown schedules lines i j first second shown a has =
    shown a (swapped_item_place i j has.0, sym (swapped_item_at lines i j has.0 first second) ∙ has.1)

-- and so do lines in another order
pub sorted_tally_moved_shown : (schedules : List (List ℕ)) (xs ys : List TallyLine) → IsPermutation xs ys
    → IsTallyShown schedules xs → IsTallyShown schedules ys
sorted_tally_moved_shown schedules xs ys moves is =
    IsPermutation-keeps xs (IsTallyShown schedules) is (sorted_tally_swapped_shown schedules) ys moves

-- what stands in order pairwise does so all over
sorted_tally_chained : {A : Type 0} (R : A → A → Type 0) → ((a b c : A) → R a b → R b c → R a c) → (xs : List A)
    → ((k : ℕ) (a b : A) → slice_get xs k ≡ Some a → slice_get xs (k + 1) ≡ Some b → R a b) → InOrder R xs
sorted_tally_chained R sorted_tally_ranks_through xs next x zero a b less at_a at_b = absurd (omega arith)
sorted_tally_chained {A} R sorted_tally_ranks_through xs next x (suc y) a b less at_a at_b = elim (cases_eq x y) [
  | inl is ↦ next y a b (ap (slice_get xs) (sym is) ∙ at_a) (ap (slice_get xs) (add-one y) ∙ at_b)
  | inr isnt ↦
      (let within = slice_get_within xs (suc y) b at_b in
      let m = slice_index_or xs y a in
      let at_m = slice_get-get_or xs y a (omega (arith, within)) in
      sorted_tally_ranks_through a m b (sorted_tally_chained R sorted_tally_ranks_through xs next x y a m (omega (arith, less, isnt)) at_a at_m) (next y m b at_m (ap (slice_get xs) (add-one y) ∙ at_b)))
]

-- over three lines
sorted_tally_ranks_through : (a b c : TallyLine) → TallyOrderRanksAbove a b → TallyOrderRanksAbove b c → TallyOrderRanksAbove a c
sorted_tally_ranks_through a b c (inl x) (inl y) = inl (omega (arith, x, y))
sorted_tally_ranks_through a b c (inl x) (inr y) = inl (omega (arith, x, y.0))
sorted_tally_ranks_through a b c (inr x) (inl y) = inl (omega (arith, x.0, y))
sorted_tally_ranks_through a b c (inr x) (inr y) = inr (omega (arith, x.0, y.0), omega (arith, x.1, y.1))

-- a greater number isn't less
sorted_tally_not_less : (x y : ℕ) → y ≤ x → is_lt (nat_cmp x y) ≡ false
sorted_tally_not_less x y le = ap (λ b. is_lt (cond b Less (cond (x == y) Equal Greater))) (le-ltb x y le) ∙ go (x == y)
  where
    go : (b : Bool) → is_lt (cond b Equal Greater) ≡ false
    go true = refl
    go false = refl

-- the key of the first run
abbrev sorted_tally_first_run : TallyLine → ℕ
sorted_tally_first_run line = tally_place_of_seed line.seed

-- the key that puts the most frequent first
abbrev pub sorted_tally_rarity : TallyLine → ℕ
sorted_tally_rarity line = 18446744073709551615 - line.times

-- lines that are seen in order are sorted by that
sorted_tally_sorted_as_seen : (lines : List TallyLine) → IsTallyOrderAsSeen lines → IsSortedByKey sorted_tally_first_run nat_cmp lines
sorted_tally_sorted_as_seen lines seen k d low high =
    let a = slice_index_or lines k d in
    let b = slice_index_or lines (k + 1) d in
    let at_a = slice_get-get_or lines k d (omega (arith, high)) in
    let at_b = slice_get-get_or lines (k + 1) d high in
    let lt = seen k (k + 1) a b (omega arith) at_a at_b in
    sorted_tally_not_less (sorted_tally_first_run b) (sorted_tally_first_run a) (omega (arith, lt))

-- a stable sort of them by how rare they are
pub sorted_tally_frequent_first : (old new : List TallyLine) → sum_by tally_times_of old < 2 ^ 64 → IsPermutation old new
    → IsStableByKey sorted_tally_rarity nat_cmp old new → IsNonDecreasingBy sorted_tally_rarity new → IsTallyOrderAsSeen old
    → IsTallyOrderByFrequency new
sorted_tally_frequent_first old new few moves stable rising seen = sorted_tally_chained TallyOrderRanksAbove sorted_tally_ranks_through new next
  where
    all : sum_by tally_times_of new ≡ sum_by tally_times_of old
    all = sum_by-IsPermutation tally_times_of old new moves

    next : (k : ℕ) (a b : TallyLine) → slice_get new k ≡ Some a → slice_get new (k + 1) ≡ Some b → TallyOrderRanksAbove a b
    next k a b at_a at_b =
        let within = slice_get_within new (k + 1) b at_b in
        let one : slice_index_or new k a ≡ a = tally_noted_item_at new k a a at_a in
        let two : slice_index_or new (k + 1) a ≡ b = tally_noted_item_at new (k + 1) b a at_b in
        let up = rw (one, two) at (rising k (k + 1) a (omega arith) within) in
        let some_a = tally_noted_times_few new k a at_a in
        let some_b = tally_noted_times_few new (k + 1) b at_b in
        elim (cases_eq b.times a.times) [
          | inl same ↦
              (let tie = ties_still_rise sorted_tally_first_run sorted_tally_rarity old new (sorted_tally_sorted_as_seen old seen) stable k a
              (omega (arith, within))
              (ap sorted_tally_rarity one ∙ ap (λ t. 18446744073709551615 - t) (sym same) ∙ ap sorted_tally_rarity (sym two)) in
              inr (same, rw (one, two) at tie))
          | inr other ↦ inl (omega (arith, up, some_a, some_b, all, few, other))
        ]
