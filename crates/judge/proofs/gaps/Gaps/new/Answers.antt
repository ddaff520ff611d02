use Rattle.std.proofs.Common.{ℕ, Option, List, [], slice_index, ap, ◌∙◌, arith}
use Rattle.base.proofs.SliceSets.{index-zeros}
use Rattle.std.proofs.lemmas.Option.{none-some}
use Rattle.journal.specs.declared.event.Kind.TheVariants.{Store}
use Rattle.journal.specs.DidEvent.{event}
use Rattle.judge.specs.JudgedSizes.{judged_sizes_of}
use Rattle.judge.specs.FetchGaps.{FetchGapStoreAt, FetchGapStoreInPage, fetch_gap_clock, fetch_gap_time}
use Rattle.judge.specs.GapTally.{gap_tally_place_of}
use Rattle.judge.proofs.GapEvents.{gap_event_fetched_start}
use Rattle.judge.proofs.TallyRows.{tally_rows_and_marks_none}
use Rattle.judge.proofs.gaps.Gaps.new.Goals as goal

nothing : (a q k : ℕ) → ¬ FetchGapStoreAt [] a q k
nothing a q k x = none-some (event q (Store a x.1)) x.2

pub returns-clause-tells : goal.returns-clause-tells
returns-clause-tells c =
    let s = judged_sizes_of c.args.sizes in
    let fetched = c.in_ok-new-2.field-0 in
    let sparse = c.in_ok-new-2.ensures.sparse in
    record {
      clocks = c.in_ok-new.ensures.clocks;
      present = c.in_ok-new.ensures.present;
      processors = λ i e at. absurd (none-some e at);
      long = record {
        sizes = c.requires;
        fetched = sparse.sparse;
        fetched_room = sparse.room;
        intervals = c.in_ok-new-3.ensures.room;
      };
      are = record {
        fetched = λ n p lt. gap_event_fetched_start s p n (fetch_gap_time fetched (gap_tally_place_of n p))
            (λ q. ap (λ (o : Option (List ℕ)). slice_index (fetch_gap_clock o) q) (c.in_ok-new-2.ensures.none (gap_tally_place_of n p))
            ∙ index-zeros 16 q);
        intervals =
            tally_rows_and_marks_none (FetchGapStoreInPage s []) (λ z. z) (FetchGapStoreInPage s []) c.in_ok-new-3.field-0
            (c.in_ok-new-3.ensures.few_rows, c.in_ok-new-3.ensures.few_marks)
            c.in_ok-new-3.ensures.empty c.in_ok-new-3.ensures.unmarked (λ m r z h. nothing h.0 r z h.1.0)
            (λ m r z h. nothing h.0 r z h.1.0);
        few = (let few = sparse.few in omega arith);
      };
    }
