use Rattle.std.proofs.Common.{ℕ, List, [], slice_index, subst, sym, refl, ap, ◌∙◌}
use Rattle.base.proofs.SliceSets.{index-zeros}
use Rattle.std.proofs.lemmas.Option.{none-some}
use Rattle.judge.specs.FetchGaps.{FetchGapStoreAt}
use Rattle.judge.specs.GapTally.{IsGapTallyMark, gap_tally_mark_in}
use Rattle.judge.specs.JudgedSizes.{judged_sizes_of}
use Rattle.judge.specs.SparseTables.{sparse_at, sparse_items}
use Rattle.judge.specs.StoredCounts.{stored_row}
use Rattle.judge.specs.StoredSteps.{AreStoredSteps, stored_total}
use Rattle.judge.proofs.StoredNext.{stored_next_start}
use Rattle.judge.proofs.stored_counts.StoredCounts.new.Goals as goal

pub returns-clause-tells : goal.returns-clause-tells
returns-clause-tells c =
    let s = judged_sizes_of c.args.sizes in
    let row = stored_row c.args.sizes.processors in
    record {
      sizes = c.requires;
      long = c.in_ok-vec.ensures.len;
      closed = λ q lt. ap (λ (xs : List ℕ). slice_index xs q) (c.in_ok-vec.ensures.items_if_clones_equal (λ x is. is))
          ∙ index-zeros c.args.sizes.processors q;
      pages = λ n q lt.
          subst (λ x. AreStoredSteps s [] n q (sparse_items x) (stored_total (sparse_at c.in_ok-new-2.field-0 (row n q)))) (sym (c.in_ok-new.ensures.none (row n q)))
          (subst (λ x. AreStoredSteps s [] n q [] (stored_total x)) (sym (c.in_ok-new-2.ensures.none (row n q)))
          (stored_next_start s n q));
      words = λ a q lt.
          subst (λ x. IsGapTallyMark (FetchGapStoreAt [] a q) (gap_tally_mark_in x)) (sym (c.in_ok-new-3.ensures.none (row a q)))
          (record { below = λ k h. absurd (none-some _ h.2); last = λ some. absurd (some refl) });
      steps_sparse = c.in_ok-new.ensures.sparse;
      totals_sparse = c.in_ok-new-2.ensures.sparse;
      words_sparse = c.in_ok-new-3.ensures.sparse;
    }
