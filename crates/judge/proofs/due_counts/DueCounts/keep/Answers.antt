use Rattle.std.proofs.Common.{refl, ap, slice_index}
use Rattle.journal.specs.declared.event.Event.{Event}
use Rattle.judge.specs.JudgedSizes.{judged_sizes_of}
use Rattle.judge.specs.SparseTables.{sparse_row}
use Rattle.judge.specs.StoredCounts.{stored_row}
use Rattle.judge.proofs.DueGaps.{due_fetched_others}
use Rattle.judge.proofs.LongerSparseTables.{longer_sparse_same}
use Rattle.judge.proofs.due_counts.DueCounts.keep.Goals as goal

pub returns-in_default : goal.returns-in_default
returns-in_default c = record {
  rest = refl;
  fetched = λ j tells.
      (let x = c.args.self.now in
      let e = c.args.event in
      record {
        cuts = λ n p lt. due_fetched_others (judged_sizes_of x.stored.sizes) j e p n
            (slice_index (sparse_row x.fetched (stored_row x.stored.sizes.processors n p)))
            (λ w r d is. c.in_default.not-Fetch w n r d (ap (λ (y : Event). y.kind) is)) (tells.fetched.cuts n p lt);
        sparse = longer_sparse_same j e x.fetched tells.fetched.sparse;
      });
}
