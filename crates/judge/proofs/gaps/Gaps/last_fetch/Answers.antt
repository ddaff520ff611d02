use Rattle.std.proofs.Common.{ℕ, ◌≡◌, List, Option, Some, None, refl, replicate, slice_index, subst, sym, ap, ◌∙◌}
use Rattle.std.specs.Option.{unwrap_or}
use Rattle.base.specs.Limits.{most_processors}
use Rattle.judge.specs.FetchGaps.{FetchGapBroughtUpTo, fetch_gap_clock}
use Rattle.judge.specs.JudgedSizes.{judged_sizes_of}
use Rattle.judge.specs.SparseTables.{sparse_at}
use Rattle.judge.proofs.gaps.Gaps.last_fetch.Goals as goal

same_clock : (o : Option (List ℕ)) → fetch_gap_clock o ≡ unwrap_or o (replicate most_processors 0)
same_clock None = refl
same_clock (Some time) = refl

pub returns : goal.returns
returns c = λ j tells.
    let g = c.args.self.now in
    let p = c.args.processor in
    let n = c.args.page in
    let read = ap (λ r. fetch_gap_clock (sparse_at g.fetched r)) (sym c.gap_row_at.ensures)
    ∙ ap fetch_gap_clock (sym c.get.ensures) ∙ same_clock c.get.result ∙ sym c.unwrap_or.ensures in
    subst (λ (time : List ℕ). FetchGapBroughtUpTo (judged_sizes_of g.sizes) j p n (slice_index time)) read
    (tells.are.fetched n p c.requires.processor)
