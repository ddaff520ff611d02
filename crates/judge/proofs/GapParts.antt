-- What a fetch counts, a processor's stores at a time.
use Rattle.std.proofs.Common.{ℕ, ◌≡◌, ◌+◌, ◌<◌, ◌≤◌, ◌⊎◌, ◌↔◌, inl, inr, cond, nat_lt, List, refl, sym, ap, ap₂, ◌∙◌, subst, arith}
use Rattle.std.proofs.lemmas.Bool.{cases_eq, cases_lt, lt-ltb, le-ltb}
use Rattle.journal.specs.declared.event.Event.{Event}
use Rattle.journal.specs.Sizes.{Sizes}
use Rattle.journal.specs.EventsInRange.{EventProcessorsInRange}
use Rattle.journal.specs.PageImages.{HasPageImageCount, StoredInGapOfPageImage, GapCounts}
use Rattle.journal.specs.declared.event.Kind.TheVariants.{Store}
use Rattle.journal.specs.DidEvent.{event}
use Rattle.journal.proofs.Missing.GapsCounted.{gaps_counted_same}
use Rattle.judge.specs.DueCounts.{DueAmountsAmong}
use Rattle.judge.specs.FetchGaps.{FetchGapStoreInPage, FetchGapStoreOfWord}
use Rattle.judge.proofs.ValueCounts.{value_count_none, value_count_joined, value_count_map, value_count_some, value_count_zero, value_count_one}
use Rattle.judge.proofs.GapEvents.{gap_event_not_own}

-- who stored in the gap
abbrev pub GapPartWrites : Sizes → List Event → ℕ → ℕ → ℕ → Type 0
GapPartWrites s j p n q = (k : ℕ) × (a : ℕ) × StoredInGapOfPageImage s j p n (q, k, a)

-- in which interval
abbrev pub GapPartRecords : Sizes → List Event → ℕ → ℕ → ℕ × ℕ → Type 0
GapPartRecords s j p n x = (a : ℕ) × StoredInGapOfPageImage s j p n (x.0, x.1, a)

-- one's own stores count nothing
pub gap_part_counts_own : (s : Sizes) (j : List Event) (p n q : ℕ) → q ≡ p → DueAmountsAmong s j p n (λ r. r ≡ q) 0 0 0
gap_part_counts_own s j p n q mine = record {
  writers_are = value_count_none (λ (r : ℕ). (r ≡ q) × GapPartWrites s j p n r) (λ r h. away r h.1.0 h.1.1 h.0 h.1.2);
  records_are = value_count_none (λ (x : ℕ × ℕ). (x.0 ≡ q) × GapPartRecords s j p n x) (λ x h. away x.0 x.1 h.1.0 h.0 h.1.1);
  words_are = value_count_none (λ (x : ℕ × ℕ × ℕ). (x.0 ≡ q) × StoredInGapOfPageImage s j p n x) (λ x h. away x.0 x.1 x.2 h.0 h.1);
}
  where
    away : (r k a : ℕ) → r ≡ q → StoredInGapOfPageImage s j p n (r, k, a) → ⊥
    away r k a is g = gap_event_not_own s j p n k a (subst (λ z. StoredInGapOfPageImage s j p n (z, k, a)) (is ∙ mine) g)

-- another's count what lies between two of its intervals
pub gap_part_counts_between : {s : Sizes} {j : List Event} {p n q : ℕ} {lo hi : ℕ} (w r d : ℕ)
    → ((k a : ℕ) → StoredInGapOfPageImage s j p n (q, k, a) ↔ (FetchGapStoreOfWord s j n q (k, a) × (lo ≤ k) × (k < hi)))
    → HasPageImageCount (λ (k : ℕ). FetchGapStoreInPage s j n q k × (lo ≤ k) × (k < hi)) r
    → HasPageImageCount (λ (x : ℕ × ℕ). FetchGapStoreOfWord s j n q x × (lo ≤ x.0) × (x.0 < hi)) d
    → w ≡ cond (nat_lt 0 r) 1 0 → DueAmountsAmong s j p n (λ x. x ≡ q) w r d
gap_part_counts_between {s = s} {j = j} {p = p} {n = n} {q = q} {lo = lo} {hi = hi} w r d is in_page of_word ws = record {
  writers_are = subst (HasPageImageCount W) (sym ws) (writers (cases_lt 0 r));
  records_are =
      value_count_map (λ k. GapPartRecords s j p n (q, k)) (λ (x : ℕ × ℕ). (x.0 ≡ q) × GapPartRecords s j p n x) (λ k. (q, k)) r
      (λ a b same. ap (λ (x : ℕ × ℕ). x.1) same) (λ k h. (refl, h))
      (λ x h. (x.1, subst (λ z. GapPartRecords s j p n (z, x.1)) h.0 h.1, ap (λ z. (z, x.1)) (sym h.0))) records;
  words_are =
      value_count_map (λ (x : ℕ × ℕ). StoredInGapOfPageImage s j p n (q, x.0, x.1))
      (λ (x : ℕ × ℕ × ℕ). (x.0 ≡ q) × StoredInGapOfPageImage s j p n x) (λ (x : ℕ × ℕ). (q, x.0, x.1)) d
      (λ a b same. pairs a b (ap (λ (x : ℕ × ℕ × ℕ). x.1) same) (ap (λ (x : ℕ × ℕ × ℕ). x.2) same)) (λ k h. (refl, h))
      (λ x h. (
        (x.1, x.2),
        subst (λ z. StoredInGapOfPageImage s j p n (z, x.1, x.2)) h.0 h.1,
        ap (λ z. (z, x.1, x.2)) (sym h.0),
      )) all;
}
  where
    W : ℕ → Type 0
    W x = (x ≡ q) × GapPartWrites s j p n x

    pairs : (a b : ℕ × ℕ) → a.0 ≡ b.0 → a.1 ≡ b.1 → a ≡ b
    pairs a b first second = ap₂ (λ (k x : ℕ). (k, x)) first second

    records : HasPageImageCount (λ k. GapPartRecords s j p n (q, k)) r
    records =
        gaps_counted_same (λ (k : ℕ). FetchGapStoreInPage s j n q k × (lo ≤ k) × (k < hi)) (λ k. GapPartRecords s j p n (q, k)) r
        (λ k. (
          λ h. (h.0.0, (is k h.0.0).1 (h.0.1, h.1, h.2)),
          λ h. let g = (is k h.0).0 h.1 in ((h.0, g.0), g.1, g.2),
        )) in_page

    all : HasPageImageCount (λ (x : ℕ × ℕ). StoredInGapOfPageImage s j p n (q, x.0, x.1)) d
    all =
        gaps_counted_same (λ (x : ℕ × ℕ). FetchGapStoreOfWord s j n q x × (lo ≤ x.0) × (x.0 < hi))
        (λ (x : ℕ × ℕ). StoredInGapOfPageImage s j p n (q, x.0, x.1)) d (λ x. ((is x.0 x.1).1, (is x.0 x.1).0)) of_word

    writers : (0 < r) ⊎ (r ≤ 0) → HasPageImageCount W (cond (nat_lt 0 r) 1 0)
    writers (inl some) =
        let k = value_count_some (λ k. GapPartRecords s j p n (q, k)) r records some in
        rw (lt-ltb 0 r some) (value_count_one W q (refl, (k.0, k.1.0, k.1.1)) (λ y h. sym h.0))
    writers (inr none) =
        let zeros : r ≡ 0 = omega arith in
        rw (le-ltb 0 r none)
        (value_count_none W (λ y h. value_count_zero (λ k. GapPartRecords s j p n (q, k)) h.1.0
        (subst (HasPageImageCount (λ k. GapPartRecords s j p n (q, k))) zeros records)
        (h.1.1, subst (λ z. StoredInGapOfPageImage s j p n (z, h.1.0, h.1.1)) h.0 h.1.2)))

-- none of no processors
pub gap_part_counts_start : (s : Sizes) (j : List Event) (p n : ℕ) → DueAmountsAmong s j p n (λ q. q < 0) 0 0 0
gap_part_counts_start s j p n = record {
  writers_are = value_count_none (λ (r : ℕ). (r < 0) × GapPartWrites s j p n r) (λ r h. (let no = h.0 in omega arith));
  records_are = value_count_none (λ (x : ℕ × ℕ). (x.0 < 0) × GapPartRecords s j p n x) (λ x h. (let no = h.0 in omega arith));
  words_are = value_count_none (λ (x : ℕ × ℕ × ℕ). (x.0 < 0) × StoredInGapOfPageImage s j p n x) (λ x h. (let no = h.0 in omega arith));
}

gap_part_joined : {A : Type 0} (key : A → ℕ) (V : A → Type 0) (n a b : ℕ) → HasPageImageCount (λ x. (key x < n) × V x) a
    → HasPageImageCount (λ x. (key x ≡ n) × V x) b → HasPageImageCount (λ x. (key x < n + 1) × V x) (a + b)
gap_part_joined {A} key V n a b =
    value_count_joined (λ x. (key x < n) × V x) (λ x. (key x ≡ n) × V x) (λ x. (key x < n + 1) × V x) a b
    (λ x h g. (let less = h.0 in let is = g.0 in omega arith)) (λ x. (there x, back x))
  where
    there : (x : A) → (key x < n + 1) × V x → ((key x < n) × V x) ⊎ ((key x ≡ n) × V x)
    there x h = elim (cases_eq (key x) n) [
      | inl is ↦ inr (is, h.1)
      | inr isnt ↦ inl ((let less = h.0 in omega arith), h.1)
    ]

    back : (x : A) → ((key x < n) × V x) ⊎ ((key x ≡ n) × V x) → (key x < n + 1) × V x
    back x (inl h) = ((let less = h.0 in omega arith), h.1)
    back x (inr h) = ((let is = h.0 in omega arith), h.1)

-- one more processor's
pub gap_part_counts_next : {s : Sizes} {j : List Event} {p n : ℕ} (q w r d w' r' d' : ℕ) → DueAmountsAmong s j p n (λ x. x < q) w r d
    → DueAmountsAmong s j p n (λ x. x ≡ q) w' r' d' → DueAmountsAmong s j p n (λ x. x < q + 1) (w + w') (r + r') (d + d')
gap_part_counts_next {s = s} {j = j} {p = p} {n = n} q w r d w' r' d' old now = record {
  writers_are = gap_part_joined (λ (x : ℕ). x) (GapPartWrites s j p n) q w w' old.writers_are now.writers_are;
  records_are = gap_part_joined (λ (x : ℕ × ℕ). x.0) (GapPartRecords s j p n) q r r' old.records_are now.records_are;
  words_are = gap_part_joined (λ (x : ℕ × ℕ × ℕ). x.0) (StoredInGapOfPageImage s j p n) q d d' old.words_are now.words_are;
}

-- all processors'
pub gap_part_counts_all : (s : Sizes) {j : List Event} (p n : ℕ) {most : ℕ} (w r d : ℕ) → EventProcessorsInRange most j
    → DueAmountsAmong s j p n (λ x. x < most) w r d → GapCounts s j p n w r d
gap_part_counts_all s {j = j} p n {most = most} w r d range c = record {
  writers_are =
      gaps_counted_same (λ (q : ℕ). (q < most) × GapPartWrites s j p n q) (GapPartWrites s j p n) w
      (λ q. (λ h. h.1, λ h. (within q h.0 h.1 h.2, h))) c.writers_are;
  records_are =
      gaps_counted_same (λ (x : ℕ × ℕ). (x.0 < most) × GapPartRecords s j p n x) (GapPartRecords s j p n) r
      (λ x. (λ h. h.1, λ h. (within x.0 x.1 h.0 h.1, h))) c.records_are;
  words_are =
      gaps_counted_same (λ (x : ℕ × ℕ × ℕ). (x.0 < most) × StoredInGapOfPageImage s j p n x) (StoredInGapOfPageImage s j p n) d
      (λ x. (λ h. h.1, λ h. (within x.0 x.1 x.2 h, h))) c.words_are;
}
  where
    within : (q k a : ℕ) → StoredInGapOfPageImage s j p n (q, k, a) → q < most
    within q k a g = range g.0 (event q (Store a g.1)) g.2
