use Rattle.std.proofs.Common.{ℕ, ◌≡◌, ◌*◌, Option, [], slice_index, subst, sym, ap, ◌∙◌}
use Rattle.std.proofs.lemmas.Option.{none-some}
use Rattle.judge.specs.declared.sizes.Sizes.{Sizes}
use Rattle.judge.specs.declared.sparse_table.SparseTable.{SparseTable}
use Rattle.judge.specs.JudgedSizes.{judged_sizes_of}
use Rattle.judge.specs.DueCounts.{AreDueFetchedCuts}
use Rattle.judge.specs.SparseTables.{IsSparseFor, sparse_at, sparse_items, sparse_row}
use Rattle.judge.specs.StoredCounts.{stored_row}
use Rattle.std.specs.Global.{Vec}
use Rattle.std.specs.Prelude.{None}
use Rattle.judge.proofs.DueGaps.{due_fetched_start}
use Rattle.judge.proofs.due_counts.DueCounts.new.Goals as goal

-- nothing was fetched
nothing : (sizes : Sizes) (fetched : SparseTable (Vec ℕ)) → IsSparseFor (sizes.pages * sizes.processors) 0 fetched
    → ((r : ℕ) → sparse_at fetched r ≡ None) → AreDueFetchedCuts (judged_sizes_of sizes) [] fetched
nothing sizes fetched sparse none = record {
  cuts = λ n p lt. due_fetched_start (judged_sizes_of sizes) p n
      (slice_index (sparse_row fetched (stored_row sizes.processors n p)))
      (λ q. ap (λ (o : Option (Vec ℕ)). slice_index (sparse_items o) q) (none (stored_row sizes.processors n p)));
  sparse = sparse;
}

pub returns-clause-tells : goal.returns-clause-tells
returns-clause-tells c =
    let same = sym c.in_ok-new-3.ensures.sizes in
    record {
      cuts = c.in_ok-new.ensures.cuts;
      present = c.in_ok-new.ensures.present ∙ ap (λ (x : Sizes). x.processors) same;
      processors = λ i e at. absurd (none-some e at);
      fetched = subst (λ (x : Sizes). AreDueFetchedCuts (judged_sizes_of x) [] c.in_ok-new-2.field-0) same
          (nothing c.args.sizes c.in_ok-new-2.field-0 c.in_ok-new-2.ensures.sparse c.in_ok-new-2.ensures.none);
      stored = c.in_ok-new-3.ensures.tells;
    }
