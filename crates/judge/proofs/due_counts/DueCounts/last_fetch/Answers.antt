use Rattle.std.proofs.Common.{ℕ, List, slice_index, subst, sym, ap, ◌∙◌}
use Rattle.judge.specs.DueCounts.{IsDueFetchedCut}
use Rattle.judge.specs.JudgedSizes.{judged_sizes_of}
use Rattle.judge.specs.SparseTables.{sparse_row}
use Rattle.judge.proofs.due_counts.DueCounts.last_fetch.Goals as goal

pub returns : goal.returns
returns c = λ j tells.
    let d = c.args.self.now in
    let p = c.args.processor in
    let n = c.args.page in
    let read = ap (sparse_row d.fetched) (sym c.page_row.ensures.is) ∙ sym c.items_of_row.ensures in
    subst (λ (cut : List ℕ). IsDueFetchedCut (judged_sizes_of d.stored.sizes) j p n (slice_index cut)) read
    (tells.fetched.cuts n p c.requires.processor)
