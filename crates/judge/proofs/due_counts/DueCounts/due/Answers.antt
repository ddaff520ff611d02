use Rattle.std.proofs.Common.{◌+◌, ◌<◌, subst, sym, arith}
use Rattle.journal.specs.EventsInRange.{EventProcessorsInRange}
use Rattle.judge.specs.declared.due_counts.DueAmounts.{DueAmounts}
use Rattle.judge.specs.JudgedSizes.{judged_sizes_of}
use Rattle.judge.specs.DueCounts.{AreDueAmountsFew}
use Rattle.judge.specs.DueCounts.{DueAmountsAmong}
use Rattle.judge.proofs.GapParts.{gap_part_counts_all, gap_part_counts_next, gap_part_counts_start}
use Rattle.judge.proofs.due_counts.DueCounts.due.Goals as goal

pub loop-by-init : goal.loop-by-init
loop-by-init c = record {
  present = c.requires.tells.1.stored.sizes.processors;
  few = (let none = c.none-due.ensures in
      let P : DueAmounts → Type 0 = λ x. AreDueAmountsFew 0 x in
      subst P (sym none) (record { writers = omega arith; records = omega arith; words = omega arith }));
  had = c.last_fetch-had.ensures;
  counts = λ j tells.
      (let s = judged_sizes_of c.args.self.now.stored.sizes in
      let P : DueAmounts → Type 0 =
      λ x. DueAmountsAmong s j c.args.processor c.args.page (λ q. q < 0) x.writers x.records x.words in
      subst P (sym c.none-due.ensures) (gap_part_counts_start s j c.args.processor c.args.page));
}

pub part-requires-clause-tells : goal.part-requires-clause-tells
part-requires-clause-tells c =
    let tells = c.requires.tells in (tells.0, tells.1, c.loop-by.invariant.had tells.0 tells.1)

pub loop-by-preserved : goal.loop-by-preserved
loop-by-preserved c = record {
  present = c.loop-by.invariant.present;
  few = c.and-due.ensures.few;
  had = c.loop-by.invariant.had;
  counts = λ j tells.
      (let s = judged_sizes_of c.args.self.now.stored.sizes in
      let old = c.loop-by.due in
      let now = c.part.result in
      let P : DueAmounts → Type 0 =
      λ x. DueAmountsAmong s j c.args.processor c.args.page (λ q. q < c.loop-by.by + 1) x.writers x.records x.words in
      subst P (sym c.and-due.ensures.sum)
      (gap_part_counts_next c.loop-by.by old.writers old.records old.words now.writers
      now.records now.words (c.loop-by.invariant.counts j tells) (c.part.ensures.counts j tells (c.loop-by.invariant.had j tells))));
}

pub returns : goal.returns
returns c = λ j tells.
    let s = judged_sizes_of c.args.self.now.stored.sizes in
    let due = c.loop-by.due in
    let over = c.loop-by-test.false in
    let range : EventProcessorsInRange c.loop-by.by j =
    λ i e at. (let lt = tells.processors i e at in omega arith) in
    gap_part_counts_all s c.args.processor c.args.page due.writers due.records due.words range
    (c.loop-by.invariant.counts j tells)
