use Rattle.std.proofs.Common.{sym, refl, ◌∙◌, subst}
use Rattle.std.specs.Prelude.{None}
use Rattle.journal.specs.BroughtCopy.{BroughtCopyHasNoGap}
use Rattle.judge.specs.JudgedSizes.{judged_sizes_of}
use Rattle.lrc_pages.specs.Fetched.{did_if}
use Rattle.lrc_pages.proofs.CopiesWhole.{whole_copies_found}
use Rattle.lrc_pages.proofs.GapsShrink.{no_gap_counts}
use Rattle.lrc_pages.proofs.paged_history.PagedHistory.bring.Goals as goal

pub returns-then-is_whole-clause-made : goal.returns-then-is_whole-clause-made
returns-then-is_whole-clause-made c = λ h told.
    let s = judged_sizes_of c.args.self.now.sizes in
    let none = told.copies.whole c.args.processor c.args.page (c.is_whole.ensures.0 c.if-is_whole.true) in
    record {
      fetch = None;
      due = record { writers = 0; records = 0; words = 0; counts = no_gap_counts s h c.args.processor c.args.page none; is = refl };
      told = told;
      whole = none;
    }

pub returns-clause-made : goal.returns-clause-made
returns-clause-made c = λ h told.
    let made = c.in_ok-make_due.ensures.made h told in
    let x = c.make_due.new.self in
    let k = did_if h c.args.processor made.fetch in
    let none = subst (λ t. BroughtCopyHasNoGap (judged_sizes_of t) k c.args.processor c.args.page) (sym c.make_due.ensures.sizes) made.whole in
    let was = made.told in
    record {
      fetch = made.fetch;
      due = made.due;
      told = record {
        sizes = was.sizes;
        words = was.words;
        same = was.same;
        count = was.count;
        few = was.few;
        counts = was.counts;
        pages = c.find.ensures.pages ∙ was.pages;
        copies = whole_copies_found (judged_sizes_of x.sizes) k x.copies c.find.new.self c.args.processor c.args.page c.in_ok-find.ensures.found none
            was.copies;
        touched = was.touched;
        tallies = was.tallies;
        traffic = was.traffic;
        costs = was.costs;
      };
      whole = made.whole;
    }
