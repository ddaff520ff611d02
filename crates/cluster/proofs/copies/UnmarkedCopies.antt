-- What stands in the pages that have no mark.
use Rattle.std.proofs.Common.{ℕ, ◌≡◌, ◌≤◌, ◌+◌, ◌≢◌, Bool, true, false, true≢false, Some, List, [], ◌∷◌, ◌++◌, length, replicate, slice_get, take, inl, inr, sym, ap, subst, ◌∙◌, arith, add-one}
use Rattle.std.proofs.lemmas.Bool.{cases_lt}
use Rattle.std.proofs.lemmas.List.{length-take}
use Rattle.std.proofs.lemmas.Option.{slice_get_within, same_Some}
use Rattle.base.proofs.SlicesAndCounts.{slice_get-take, slice_get-take_within, slice_get-from_take, slice_take-suc_at}
use Rattle.base.proofs.SliceSets.{slice_get-replicate_found}
use Rattle.page.specs.CarriedHarvests.{IsCarriedHarvest}
use Rattle.page.specs.PageChanges.{PageChanges}
use Rattle.page.specs.Contents.{ContentsAreClean}
use Rattle.cluster.specs.Copies.PageReplica.{PageReplica}
use Rattle.cluster.specs.Copies.MarkedCopiesAndHarvests.{AreHarvestsOfCopies, IsLowestMarkedCopyFrom, LacksMarkedCopyFrom, CopiesToHarvestAreMarked}
use Rattle.cluster.proofs.copies.HarvestedInterval.{harvested_interval_more}

-- further copies that are clean add no record
unmarked_copies_wider : (xs ys : List PageReplica) (rs : List PageChanges)
    → ((n : ℕ) (c : PageReplica) → slice_get xs n ≡ Some c → slice_get ys n ≡ Some c)
    → ((n : ℕ) (c : PageReplica) → slice_get ys n ≡ Some c → ¬ ContentsAreClean c.page → slice_get xs n ≡ Some c)
    → AreHarvestsOfCopies xs rs
    → AreHarvestsOfCopies ys rs
unmarked_copies_wider xs ys rs there back hs = record {
  each = λ r has.
      let x = hs.each r has in
      record { page = x.page; copy = x.copy; at = there x.page x.copy x.at; harvest = x.harvest; dirty = x.dirty };
  all = λ n c at dirty. hs.all n c (back n c at dirty) dirty;
  rising = hs.rising;
}

module _ (xs : List PageReplica) (marks : List Bool) (dirty : CopiesToHarvestAreMarked xs marks) (a : ℕ) (rs : List PageChanges)
    (hs : AreHarvestsOfCopies (take a xs) rs)
  where
    -- no page is left that has a mark
    pub unmarked_copies_end : LacksMarkedCopyFrom marks a → AreHarvestsOfCopies xs rs
    unmarked_copies_end none = unmarked_copies_wider (take a xs) xs rs (slice_get-from_take xs a) back hs
      where
        back : (n : ℕ) (c : PageReplica) → slice_get xs n ≡ Some c → ¬ ContentsAreClean c.page → slice_get (take a xs) n ≡ Some c
        back n c at some = elim (cases_lt n a) [
          | inl early ↦ slice_get-take xs a n early ∙ at
          | inr late ↦
              (let inside = slice_get_within xs n c at in
              let few = dirty.few in
              absurd (some (dirty.clean n c at (none n late (omega arith)))))
        ]

    module _ (b : ℕ) (is : IsLowestMarkedCopyFrom marks a b) where
      -- the pages up to the next one with a mark add none
      pub unmarked_copies_until : AreHarvestsOfCopies (take b xs) rs
      unmarked_copies_until = unmarked_copies_wider (take a xs) (take b xs) rs there back hs
        where
          there : (n : ℕ) (c : PageReplica) → slice_get (take a xs) n ≡ Some c → slice_get (take b xs) n ≡ Some c
          there n c at =
              let early = slice_get-take_within xs a n c at in
              let late = is.late in
              slice_get-take xs b n (omega arith) ∙ slice_get-from_take xs a n c at

          back : (n : ℕ) (c : PageReplica) → slice_get (take b xs) n ≡ Some c → ¬ ContentsAreClean c.page
              → slice_get (take a xs) n ≡ Some c
          back n c at some =
              let early = slice_get-take_within xs b n c at in
              let here = slice_get-from_take xs b n c at in
              elim (cases_lt n a) [
                | inl before ↦ slice_get-take xs a n before ∙ here
                | inr late ↦ absurd (some (dirty.clean n c here (is.first n late early)))
              ]

      -- it is past the last copy
      pub unmarked_copies_past : length xs ≤ b → AreHarvestsOfCopies xs rs
      unmarked_copies_past past = unmarked_copies_wider (take b xs) xs rs (slice_get-from_take xs b) back unmarked_copies_until
        where
          back : (n : ℕ) (c : PageReplica) → slice_get xs n ≡ Some c → ¬ ContentsAreClean c.page → slice_get (take b xs) n ≡ Some c
          back n c at some =
              let inside = slice_get_within xs n c at in
              slice_get-take xs b n (omega arith) ∙ at

      module _ (c : PageReplica) (at : slice_get xs b ≡ Some c) where
        unmarked_copies_one_more : take (b + 1) xs ≡ take b xs ++ c ∷ []
        unmarked_copies_one_more = ap (λ (n : ℕ). take n xs) (add-one b) ∙ slice_take-suc_at xs b c at

        -- it is clean all the same
        pub unmarked_copies_clean_next : ContentsAreClean c.page → AreHarvestsOfCopies (take (b + 1) xs) rs
        unmarked_copies_clean_next clean =
            unmarked_copies_wider (take b xs) (take (b + 1) xs) rs there back unmarked_copies_until
          where
            there : (n : ℕ) (d : PageReplica) → slice_get (take b xs) n ≡ Some d → slice_get (take (b + 1) xs) n ≡ Some d
            there n d old =
                let early = slice_get-take_within xs b n d old in
                slice_get-take xs (b + 1) n (omega arith) ∙ slice_get-from_take xs b n d old

            back : (n : ℕ) (d : PageReplica) → slice_get (take (b + 1) xs) n ≡ Some d → ¬ ContentsAreClean d.page
                → slice_get (take b xs) n ≡ Some d
            back n d new some =
                let early = slice_get-take_within xs (b + 1) n d new in
                let here = slice_get-from_take xs (b + 1) n d new in
                elim (cases_lt n b) [
                  | inl before ↦ slice_get-take xs b n before ∙ here
                  | inr late ↦
                      (let last : b ≡ n = omega arith in
                      let P : ℕ → Type 0 = λ k. slice_get xs k ≡ Some c in
                      let same : Some c ≡ Some d = sym (subst P last at) ∙ here in
                      let Q : PageReplica → Type 0 = λ x. ContentsAreClean x.page in
                      absurd (some (subst Q (same_Some c d same) clean)))
                ]

        -- or it adds its harvest
        pub unmarked_copies_harvest_next : (r : PageChanges) → ¬ ContentsAreClean c.page → IsCarriedHarvest b c.page r
            → AreHarvestsOfCopies (take (b + 1) xs) (rs ++ r ∷ [])
        unmarked_copies_harvest_next r some harvest =
            let inside = slice_get_within xs b c at in
            let long : b ≡ length (take b xs) = let e = length-take b xs in omega arith in
            let P : ℕ → Type 0 = λ n. IsCarriedHarvest n c.page r in
            let more = harvested_interval_more (take b xs) c rs unmarked_copies_until r some (subst P long harvest) in
            let Q : List PageReplica → Type 0 = λ ys. AreHarvestsOfCopies ys (rs ++ r ∷ []) in
            subst Q (sym unmarked_copies_one_more) more

-- where no page has a mark there is no first one
pub unmarked_copies_everywhere : (marks : List Bool) (a b : ℕ) → IsLowestMarkedCopyFrom marks a b → marks ≢ replicate 64 false
unmarked_copies_everywhere marks a b is none =
    let P : List Bool → Type 0 = λ ms. slice_get ms b ≡ Some true in
    true≢false (sym (slice_get-replicate_found 64 false true b (subst P none is.marked)))
