-- Copies that are cleaned one after another.
use Rattle.std.proofs.Common.{ℕ, ◌≡◌, ◌<◌, ◌≤◌, ◌+◌, ◌⊎◌, Bool, false, Some, List, length, map, slice_get, slice_set, inl, inr, refl, sym, ap, subst, ◌∙◌, arith}
use Rattle.std.proofs.lemmas.Bool.{cases_lt, cases_eq}
use Rattle.std.proofs.lemmas.List.{map-set, map-id}
use Rattle.std.specs.Option.{option_map}
use Rattle.std.proofs.lemmas.Option.{slice_get-map, slice_get_within}
use Rattle.base.proofs.FilteredInOrder.{in_order_map_same}
use Rattle.base.proofs.SliceSets.{slice_sets_same, slice_get-set_same, slice_get-set_found, slice_get-set_other}
use Rattle.page.specs.Contents.{ContentsAreClean}
use Rattle.cluster.specs.Copies.PageReplica.{PageReplica}
use Rattle.cluster.specs.Copies.MarkedCopiesAndHarvests.{IsLowestMarkedCopyFrom, LacksMarkedCopyFrom, CopiesToHarvestAreMarked}
use Rattle.cluster.specs.Copies.AfterNews.{copy_cleaned_after_news}

-- a clean copy stays as it is
cleaned_same : (c : PageReplica) → ContentsAreClean c.page → copy_cleaned_after_news c ≡ c
cleaned_same c clean = ap (λ (d : List Bool). record c { page = record c.page { dirty = d } }) (sym clean)

-- so clean copies stay
cleaned_all_same : (xs : List PageReplica) → ((n : ℕ) (c : PageReplica) → slice_get xs n ≡ Some c → ContentsAreClean c.page)
    → map copy_cleaned_after_news xs ≡ xs
cleaned_all_same xs clean =
    in_order_map_same copy_cleaned_after_news (λ (c : PageReplica). c) xs (λ c has. cleaned_same c (clean has.0 c has.1)) ∙ map-id xs

-- a write of what stands there changes nothing
pub cleaned_set_same : {A : Type 0} (xs : List A) (i : ℕ) (x : A) → slice_get xs i ≡ Some x → slice_set xs i x ≡ xs
cleaned_set_same xs i x at = slice_sets_same (slice_set xs i x) xs each
  where
    each : (k : ℕ) → slice_get (slice_set xs i x) k ≡ slice_get xs k
    each k = elim (cases_eq k i) [
      | inl same ↦
          (let P : ℕ → Type 0 = λ n. slice_get (slice_set xs i x) n ≡ slice_get xs n in
          let here = slice_get-set_same xs i x (slice_get_within xs i x at) ∙ sym at in
          subst P (sym same) here)
      | inr other ↦ slice_get-set_other xs i k x other
    ]

-- the copies below k and those without a mark are clean, and cleaning all makes of them what it makes of the old ones
pub record IsCleanBelow (old new : List PageReplica) (marks : List Bool) (k : ℕ) : Type 0 where
  pub same : map copy_cleaned_after_news new ≡ map copy_cleaned_after_news old
  pub clean : (n : ℕ) (c : PageReplica) → slice_get new n ≡ Some c → (n < k) ⊎ (slice_get marks n ≡ Some false)
      → ContentsAreClean c.page

-- at first
pub clean_start : (xs : List PageReplica) (marks : List Bool) → CopiesToHarvestAreMarked xs marks → IsCleanBelow xs xs marks 0
clean_start xs marks dirty = record {
  same = refl;
  clean = λ n c at h. elim h [ inl none ↦ absurd (omega arith) | inr unmarked ↦ dirty.clean n c at unmarked ];
}

module _ (old new : List PageReplica) (marks : List Bool) (a : ℕ) (so_far : IsCleanBelow old new marks a) where
  -- after the next one with a mark
  pub clean_more : (b : ℕ) (c : PageReplica) → IsLowestMarkedCopyFrom marks a b → slice_get new b ≡ Some c
      → IsCleanBelow old (slice_set new b (copy_cleaned_after_news c)) marks (b + 1)
  clean_more b c is at = record { same = same; clean = clean }
    where
      now : List PageReplica
      now = slice_set new b (copy_cleaned_after_news c)

      same : map copy_cleaned_after_news now ≡ map copy_cleaned_after_news old
      same =
          let here : slice_get (map copy_cleaned_after_news new) b ≡ Some (copy_cleaned_after_news c) =
          slice_get-map copy_cleaned_after_news new b ∙ ap (option_map copy_cleaned_after_news) at
          in
          map-set copy_cleaned_after_news new b (copy_cleaned_after_news c) ∙ cleaned_set_same (map copy_cleaned_after_news new) b (copy_cleaned_after_news c) here ∙ so_far.same

      clean : (n : ℕ) (d : PageReplica) → slice_get now n ≡ Some d → (n < b + 1) ⊎ (slice_get marks n ≡ Some false)
          → ContentsAreClean d.page
      clean n d there h = elim (cases_eq n b) [
        | inl here ↦
            (let P : ℕ → Type 0 = λ k. slice_get now k ≡ Some d in
            let is : copy_cleaned_after_news c ≡ d = slice_get-set_found new b (copy_cleaned_after_news c) d (subst P here there) in
            subst (λ (x : PageReplica). ContentsAreClean x.page) is refl)
        | inr other ↦
            (let before = sym (slice_get-set_other new b n (copy_cleaned_after_news c) other) ∙ there in
            so_far.clean n d before (elim h [
              | inr unmarked ↦ inr unmarked
              | inl early ↦
                  (elim (cases_lt n a) [
                    | inl first ↦ inl first
                    | inr late ↦ inr (is.first n late (omega arith))
                  ])
            ]))
      ]

  -- no page is left that has a mark
  pub clean_end : length new ≤ 64 → LacksMarkedCopyFrom marks a → new ≡ map copy_cleaned_after_news old
  clean_end few none = sym (cleaned_all_same new each) ∙ so_far.same
    where
      each : (n : ℕ) (c : PageReplica) → slice_get new n ≡ Some c → ContentsAreClean c.page
      each n c at = so_far.clean n c at (elim (cases_lt n a) [
        | inl early ↦ inl early
        | inr late ↦ (let inside = slice_get_within new n c at in inr (none n late (omega arith)))
      ])

  -- the next one is past the last copy
  pub clean_past : (b : ℕ) → IsLowestMarkedCopyFrom marks a b → length new ≤ b → new ≡ map copy_cleaned_after_news old
  clean_past b is past = sym (cleaned_all_same new each) ∙ so_far.same
    where
      each : (n : ℕ) (c : PageReplica) → slice_get new n ≡ Some c → ContentsAreClean c.page
      each n c at = so_far.clean n c at (elim (cases_lt n a) [
        | inl early ↦ inl early
        | inr late ↦ (let inside = slice_get_within new n c at in inr (is.first n late (omega arith)))
      ])
