use Rattle.std.proofs.Common.{ℕ, ◌≤◌, ◌<◌, subst, sym, ap, ◌∙◌, count_by}
use Rattle.journal.specs.PageImages.{HasPageImageCount}
use Rattle.judge.specs.FetchGaps.{FetchGapStoreInPage}
use Rattle.judge.specs.JudgedSizes.{judged_sizes_of}
use Rattle.judge.specs.GapTally.{is_gap_tally_between, gap_tally_numbers, gap_tally_place_of}
use Rattle.judge.proofs.TallyRows.{tally_row_counts}
use Rattle.judge.proofs.gaps.Gaps.records.Goals as goal

pub returns : goal.returns
returns c = λ j tells.
    let g = c.args.self.now in
    let s = judged_sizes_of g.sizes in
    let n = c.args.page in
    let q = c.args.by in
    let In : ℕ → Type 0 = λ k. FetchGapStoreInPage s j n q k × (c.args.from ≤ k) × (k < c.args.to) in
    let count =
    c.count.ensures
    ∙ ap (λ r. count_by (is_gap_tally_between c.args.from c.args.to) (gap_tally_numbers g.intervals r)) c.gap_row_at.ensures in
    subst (HasPageImageCount In) (sym count)
    (tally_row_counts (FetchGapStoreInPage s j n q) (λ k. k) (gap_tally_numbers g.intervals (gap_tally_place_of n q)) c.args.from c.args.to
    (tells.are.intervals.rows n q c.requires.by))
