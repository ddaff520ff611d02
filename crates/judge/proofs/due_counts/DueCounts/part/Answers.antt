use Rattle.std.proofs.Common.{◌≡◌, ◌<◌, ℕ, List, slice_index, subst, sym, arith}
use Rattle.journal.specs.declared.event.Event.{Event}
use Rattle.judge.specs.CutRows.{cut_entry}
use Rattle.judge.specs.declared.due_counts.DueAmounts.{DueAmounts}
use Rattle.judge.specs.declared.due_counts.DueCounts.{DueCounts}
use Rattle.judge.specs.Cuts.{IsCutOf}
use Rattle.judge.specs.DueCounts.{TellsDueCounts}
use Rattle.judge.specs.DueCounts.{AreDueAmountsBetween, DueAmountsAmong}
use Rattle.judge.specs.JudgedSizes.{judged_sizes_of}
use Rattle.judge.specs.StoredSteps.{IsStoredAsked}
use Rattle.judge.proofs.DueGaps.{due_gap_between}
use Rattle.judge.proofs.GapParts.{gap_part_counts_between, gap_part_counts_own}
use Rattle.judge.proofs.StoredAsks.{stored_asks_of_cut, stored_asks_of_fetched}
use Rattle.judge.proofs.TellingCuts.{cut_of_equal, cut_of_present}
use Rattle.judge.proofs.due_counts.DueCounts.part.Goals as goal

pub returns-then-by-processor-clause-counts : goal.returns-then-by-processor-clause-counts
returns-then-by-processor-clause-counts c = λ j tells had.
    let s = judged_sizes_of c.args.self.now.stored.sizes in
    let P : DueAmounts → Type 0 = λ x. DueAmountsAmong s j c.args.processor c.args.page (λ q. q ≡ c.args.by) x.writers x.records x.words in
    subst P (sym c.none.ensures) (gap_part_counts_own s j c.args.processor c.args.page c.args.by c.if-by-processor.true)

-- the cut that is read is the processor's
cut_is : (j : List Event) (d : DueCounts) (p : ℕ) (cut : List ℕ) → TellsDueCounts j d → p < d.stored.sizes.processors
    → ((q : ℕ) → slice_index cut q ≡ cut_entry d.cuts.processors p q) → IsCutOf j p (slice_index cut)
cut_is j d p cut tells lt is =
    cut_of_equal j p (cut_entry d.cuts.processors p) (slice_index cut) (λ q. sym (is q))
    (cut_of_present tells.cuts p (let present = tells.present in omega (arith, present, lt)))

pub between-requires-clause-tells : goal.between-requires-clause-tells
between-requires-clause-tells c =
    let j = c.requires.tells.0 in
    let tells = c.requires.tells.1 in
    let s = judged_sizes_of c.args.self.now.stored.sizes in
    let cut = cut_is j c.args.self.now c.args.processor c.of.result.now tells c.requires.processor c.of.ensures.entries in (
      j,
      tells,
      subst (IsStoredAsked s j c.args.page c.args.by) (sym c.known_in.ensures)
          (stored_asks_of_fetched c.args.by c.requires.tells.2 c.requires.processor c.if-by-processor.false),
      subst (IsStoredAsked s j c.args.page c.args.by) (sym c.known_in-2.ensures)
          (stored_asks_of_cut c.args.page c.args.by cut c.requires.processor c.if-by-processor.false),
    )

pub returns-clause-counts : goal.returns-clause-counts
returns-clause-counts c = λ j tells had.
    let cut = cut_is j c.args.self.now c.args.processor c.of.result.now tells c.requires.processor c.of.ensures.entries in
    let by = c.args.by in
    let apart = c.if-by-processor.false in
    let x = c.between.result in
    let s = judged_sizes_of c.args.self.now.stored.sizes in
    let n = c.args.page in
    let from = slice_index c.args.had.now by in
    let to = c.known_in-2.result in
    let told = c.between.ensures.counts j tells
    (subst (IsStoredAsked s j n by) (sym c.known_in.ensures) (stored_asks_of_fetched by had c.requires.processor apart))
    (subst (IsStoredAsked s j n by) (sym c.known_in-2.ensures) (stored_asks_of_cut n by cut c.requires.processor apart)) in
    let counts = subst (λ v. AreDueAmountsBetween s j n by from v x) c.known_in-2.ensures
    (subst (λ v. AreDueAmountsBetween s j n by v to x) c.known_in.ensures told) in
    gap_part_counts_between x.writers x.records x.words (λ k a. due_gap_between by k a had cut apart) counts.records counts.words
    counts.writers
