use Rattle.std.proofs.Common.{refl, subst, arith}
use Rattle.journal.specs.PageImages.{GapCounts}
use Rattle.judge.specs.JudgedSizes.{judged_sizes_of}
use Rattle.lrc_pages.proofs.GapsFew.{gap_counts_few}
use Rattle.lrc_pages.proofs.FetchesDue.{miscounted_due}
use Rattle.lrc_pages.proofs.paged_history.PagedHistory.due.Goals as goal

pub due_fetch_of-requires : goal.due_fetch_of-requires
due_fetch_of-requires c =
    let h = c.requires.told.0 in
    let told = c.requires.told.1 in
    let m = c.in-Some.ensures.verdict h told.counts in
    let x = c.in-Some.due in
    let few = gap_counts_few (judged_sizes_of c.args.self.now.counts.stored.sizes) h c.args.processor m.page x.writers x.records x.words m.due in
    let long = told.few in
    record { few = (omega arith, omega arith, omega arith) }

pub returns-in-None : goal.returns-in-None
returns-in-None c = λ h told. record {
  writers = 0;
  records = 0;
  words = 0;
  counts = subst (λ t. GapCounts (judged_sizes_of t) h c.args.processor c.args.page 0 0 0) told.same
      (c.in-None.ensures.verdict h told.counts c.args.page 0 0 0 refl);
  is = refl;
}

pub returns-in-Some : goal.returns-in-Some
returns-in-Some c = λ h told.
    let x = c.in-Some.due in
    record {
      writers = x.writers;
      records = x.records;
      words = x.words;
      counts = subst (λ t. GapCounts (judged_sizes_of t) h c.args.processor c.args.page x.writers x.records x.words) told.same
          (miscounted_due (judged_sizes_of c.args.self.now.counts.stored.sizes) h _ c.args.page x refl (c.in-Some.ensures.verdict h told.counts));
      is = c.due_fetch_of.ensures;
    }
