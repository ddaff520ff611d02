-- Counts of pages, built up by a loop over what has the pages.
use Rattle.std.proofs.Common.{◌≡◌, ℕ, ◌+◌, ◌-◌, ◌<◌, ◌≤◌, ◌==◌, ◌^◌, Bool, cond, inl, inr, List, [], ◌∷◌, ◌++◌, take, drop, set, length, count_by, slice_index, refl, sym, ap, subst, arith, ◌∙◌}
use Rattle.std.specs.List.{flat_map}
use Rattle.std.proofs.lemmas.Bool.{cases_eq, eq-eqb, ne_eqb}
use Rattle.std.proofs.lemmas.List.{take-append-drop, length-set, get_or-set_same, get_or-set_other}
use Rattle.std.proofs.lemmas.List.Sums.{sum_by-cons}
use Rattle.std.proofs.lemmas.Grind.{flat_map-append}
use Rattle.base.proofs.SlicesAndCounts.{slice_count_by-append}
use Rattle.interval.specs.PageCounts.{PageCountsGrew, PageCountsHaveRoom}
use Rattle.interval.proofs.Records.ReadItems.{ReadsItem, read_items_flat_mapped}

-- the test for page base + i
abbrev page_counts_grow_at_page : ℕ → ℕ → ℕ → ℕ
page_counts_grow_at_page base i p = cond (p == base + i) 1 0

pub page_counts_grow-nil : (base : ℕ) (counts : List ℕ) → PageCountsGrew base [] counts counts
page_counts_grow-nil base counts = record { long = refl; each = λ i inside. omega arith }

pub page_counts_grow-append : (base : ℕ) (ps qs before between after : List ℕ) → PageCountsGrew base ps before between
    → PageCountsGrew base qs between after → PageCountsGrew base (ps ++ qs) before after
page_counts_grow-append base ps qs before between after first second = record {
  long = second.long ∙ first.long;
  each = λ i inside.
      let here = first.each i inside in
      let long = first.long in
      let there = second.each i (omega arith) in
      let both = slice_count_by-append (λ (p : ℕ). p == base + i) ps qs in
      omega arith;
}

-- one page that has a count
pub page_counts_grow-one : (base page : ℕ) (counts : List ℕ) → base ≤ page → page - base < length counts
    → PageCountsGrew base (page ∷ []) counts (set counts (page - base) (slice_index counts (page - base) + 1))
page_counts_grow-one base page counts from inside = record {
  long = length-set counts (page - base) (slice_index counts (page - base) + 1);
  each = λ i within.
      let value = slice_index counts (page - base) + 1 in
      let one = sum_by-cons (page_counts_grow_at_page base i) page [] in
      elim (cases_eq i (page - base)) [
        | inl here ↦
            let is : cond {A = ℕ} (page == base + i) 1 0 ≡ 1 =
            ap (λ (b : Bool). cond {A = ℕ} b 1 0) (eq-eqb page (base + i) (omega arith)) in
            let new : slice_index (set counts (page - base) value) i ≡ value =
            ap (slice_index (set counts (page - base) value)) here
            ∙ get_or-set_same counts (page - base) value 0 inside in
            let old = ap (slice_index counts) here in
            omega arith
        | inr other ↦
            let isnt : cond {A = ℕ} (page == base + i) 1 0 ≡ 0 =
            ap (λ (b : Bool). cond {A = ℕ} b 1 0) (ne_eqb page (base + i) (λ e. other (omega arith))) in
            let new = get_or-set_other counts (page - base) i value 0 other in
            omega arith
      ];
}

-- one page that has none
pub page_counts_grow-out : (base page : ℕ) (counts : List ℕ) → (base ≤ page → length counts ≤ page - base)
    → PageCountsGrew base (page ∷ []) counts counts
page_counts_grow-out base page counts out = record {
  long = refl;
  each = λ i within.
      let one = sum_by-cons (page_counts_grow_at_page base i) page [] in
      let isnt : cond {A = ℕ} (page == base + i) 1 0 ≡ 0 =
      ap (λ (b : Bool). cond {A = ℕ} b 1 0)
      (ne_eqb page (base + i) (λ e. let past = out (omega arith) in omega arith)) in
      omega arith;
}

-- where a page's count is to grow, it can
pub page_counts_grow_within_room : (base page : ℕ) (counts : List ℕ) → base ≤ page → page - base < length counts
    → PageCountsHaveRoom base (page ∷ []) counts → slice_index counts (page - base) + 1 < 2 ^ 64
page_counts_grow_within_room base page counts from inside room =
    let less = room (page - base) inside in
    let one = sum_by-cons (page_counts_grow_at_page base (page - base)) page [] in
    let is : cond {A = ℕ} (page == base + (page - base)) 1 0 ≡ 1 =
    ap (λ (b : Bool). cond {A = ℕ} b 1 0) (eq-eqb page (base + (page - base)) (omega arith)) in
    omega arith

-- the items so far, and one more
pub page_counts_grow_next : {X : Type 0} {base : ℕ} {xs : List X} {k : ℕ} {x : X} {before between after : List ℕ}
    → (f : X → List ℕ) → ReadsItem xs k x
    → PageCountsGrew base (flat_map f (take k xs)) before between → PageCountsGrew base (f x) between after
    → PageCountsGrew base (flat_map f (take (k + 1) xs)) before after
page_counts_grow_next {X} {base} {xs} {k} {x} {before} {between} {after} f reads so_far one =
    let P : List ℕ → Type 0 = λ ps. PageCountsGrew base ps before after in
    subst P (sym (read_items_flat_mapped f reads))
    (page_counts_grow-append base (flat_map f (take k xs)) (f x) before between after so_far one)

-- where there is room for all, there is room for the next
pub page_counts_grow_room_next : {X : Type 0} {base : ℕ} {xs : List X} {k : ℕ} {x : X} {before between : List ℕ}
    → (f : X → List ℕ) → ReadsItem xs k x
    → PageCountsHaveRoom base (flat_map f xs) before → PageCountsGrew base (flat_map f (take k xs)) before between
    → PageCountsHaveRoom base (f x) between
page_counts_grow_room_next {X} {base} {xs} {k} {x} {before} {between} f reads room so_far i within =
    let test : ℕ → Bool = λ p. p == base + i in
    let long = so_far.long in
    let all = room i (omega arith) in
    let now = so_far.each i (omega arith) in
    let parts =
    ap (count_by test) (sym (flat_map-append f (take (k + 1) xs) (drop (k + 1) xs))
    ∙ ap (flat_map f) (take-append-drop (k + 1) xs))
    in
    let ends = slice_count_by-append test (flat_map f (take (k + 1) xs)) (flat_map f (drop (k + 1) xs)) in
    let more = ap (count_by test) (read_items_flat_mapped f reads) in
    let one = slice_count_by-append test (flat_map f (take k xs)) (f x) in
    omega arith
