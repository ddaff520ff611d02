-- What is kept of a history to tell what its processors have stored in its pages.
use Rattle.std.specs.Prelude.{ℕ, ◌≡◌, ◌*◌, ◌+◌, ◌<◌, ◌≤◌, ◌⊎◌, List, length, slice_index, vec_len}
use Rattle.std.specs.Global.{Vec}
use Rattle.journal.specs.declared.event.Event.{Event}
use Rattle.journal.specs.Events.{event_count, event_closes}
use Rattle.judge.specs.declared.sparse_table.SparseTable.{SparseTable}
use Rattle.judge.specs.declared.stored_counts.StoredCounts.{StoredCounts}
use Rattle.judge.specs.declared.stored_steps.StoredStep.{StoredStep}
use Rattle.judge.specs.declared.stored_steps.StoredTotal.{StoredTotal}
use Rattle.judge.specs.FetchGaps.{FetchGapStoreAt}
use Rattle.judge.specs.GapTally.{IsGapTallyMark, gap_tally_mark_in}
use Rattle.judge.specs.JudgedSizes.{AreStreamedSizes, judged_sizes_of}
use Rattle.judge.specs.SparseTables.{IsSparseFor, IsSparseRowWith, sparse_at, sparse_row}
use Rattle.judge.specs.StoredSteps.{AreStoredSteps, stored_total}

-- of n processors, where it is kept what there is of page or address m and processor q
abbrev pub stored_row : ℕ → ℕ → ℕ → ℕ
stored_row n m q = m * n + q

-- the place is a step of the row, unless something was stored there in this interval
abbrev pub StoredStepAdds : SparseTable (Vec StoredStep) → SparseTable (Vec StoredStep) → ℕ → ℕ → StoredTotal → ℕ → Type 0
StoredStepAdds old new row place total interval =
    ((total.until ≤ interval) × IsSparseRowWith old new row (record { place = place; before = total.amounts }))
    ⊎ ((interval < total.until) × (new ≡ old))

-- what is kept is the history's
pub record AreStoredCountsOf (j : List Event) (c : StoredCounts) : Type 0 where
  pub sizes : AreStreamedSizes (judged_sizes_of c.sizes)
  pub long : vec_len c.closed ≡ c.sizes.processors
  pub closed : (q : ℕ) → q < c.sizes.processors → slice_index c.closed.items q ≡ event_count event_closes j q
  pub pages : (n q : ℕ) → q < c.sizes.processors → AreStoredSteps (judged_sizes_of c.sizes) j n q
      (sparse_row c.steps (stored_row c.sizes.processors n q)) (stored_total (sparse_at c.totals (stored_row c.sizes.processors n q)))
  pub words : (a q : ℕ) → q < c.sizes.processors
      → IsGapTallyMark (FetchGapStoreAt j a q) (gap_tally_mark_in (sparse_at c.words (stored_row c.sizes.processors a q)))
  pub steps_sparse : IsSparseFor (c.sizes.pages * c.sizes.processors) (length j) c.steps
  pub totals_sparse : IsSparseFor (c.sizes.pages * c.sizes.processors) (length j) c.totals
  pub words_sparse : IsSparseFor ((c.sizes.pages * c.sizes.words) * c.sizes.processors) (length j) c.words
