-- What is kept of stores and fetches, as the history goes on.
use Rattle.std.proofs.Common.{◌≡◌, ◌≢◌, ℕ, ◌+◌, ◌<◌, ◌≤◌, List, [], ◌∷◌, ◌++◌, length, vec_len, subst, arith, length-append}
use Rattle.journal.specs.declared.event.Event.{Event}
use Rattle.journal.specs.declared.event.Kind.TheVariants.{Store}
use Rattle.journal.specs.DidEvent.{event}
use Rattle.journal.specs.Sizes.{Sizes}
use Rattle.judge.specs.declared.gaps.Gaps.{Gaps}
use Rattle.judge.specs.declared.sparse_table.SparseTable.{SparseTable}
use Rattle.judge.specs.JudgedSizes.{judged_sizes_of}
use Rattle.judge.specs.FetchGaps.{AreFetchGapsOf, FetchGapBroughtUpTo, FetchGapStoreInPage, fetch_gap_time}
use Rattle.judge.specs.GapTally.{IsGapTallyOfValues, gap_tally_place_of}
use Rattle.judge.proofs.TallyRows.{tally_rows_and_marks_same}
use Rattle.judge.proofs.GapEvents.{gap_event_page_others}

-- under an event that is no store the tally stays
pub keeping_gaps : (j : List Event) (e : Event) (g : Gaps) (fetched : SparseTable (List ℕ))
    → ((q a v : ℕ) → e ≢ event q (Store a v))
    → ((n p : ℕ) → p < 16 → FetchGapBroughtUpTo (judged_sizes_of g.sizes) (j ++ e ∷ []) p n (fetch_gap_time fetched (gap_tally_place_of n p)))
    → vec_len fetched.kept ≤ length j + 1
    → AreFetchGapsOf j g → AreFetchGapsOf (j ++ e ∷ []) (record g { fetched = fetched })
keeping_gaps j e g fetched none fetches few are = record {
  fetched = fetches;
  intervals =
      subst (λ x. IsGapTallyOfValues (FetchGapStoreInPage s (j ++ e ∷ [])) (λ z. z) (FetchGapStoreInPage s (j ++ e ∷ [])) x g.intervals) long
      (tally_rows_and_marks_same (FetchGapStoreInPage s (j ++ e ∷ []))
      (FetchGapStoreInPage s (j ++ e ∷ [])) (gap_event_page_others s j e none) (gap_event_page_others s j e none)
      are.intervals);
  few = omega (arith, long, few);
}
  where
    s : Sizes
    s = judged_sizes_of g.sizes

    long : length j + 1 ≡ length (j ++ e ∷ [])
    long = let sum = length-append j (e ∷ []) in omega arith
