use Rattle.std.proofs.Common.{◌≡◌, sym, ap, ◌∙◌, subst}
use Rattle.journal.specs.PageImages.{HasPageImageCount}
use Rattle.journal.specs.Sizes.{Sizes}
use Rattle.judge.specs.JudgedSizes.{judged_sizes_of}
use Rattle.lrc_pages.specs.Fetched.{IsFetched}
use Rattle.lrc_pages.specs.PagedHistory.{IsTouchedPage}
use Rattle.lrc_pages.specs.PagedTraces.{paged_sizes}
use Rattle.lrc_pages.specs.PageTallies.{ArePageTallies}
use Rattle.lrc_pages.specs.PageTraffic.{IsPageTraffic}
use Rattle.lrc_pages.proofs.page_row.page_row_of.Goals as goal

pub returns-clause-row : goal.returns-clause-row
returns-clause-row c = λ s j paged.
    let x = c.args.history.now in
    let h = paged.told.history in
    let told = paged.told.told in
    let sizes : judged_sizes_of x.sizes ≡ paged_sizes s c.words.result = paged.sizes ∙ ap (paged_sizes s) (sym c.words.ensures) in
    record {
      history = h;
      fetched = subst (λ (t : Sizes). IsFetched t j h) sizes paged.told.fetched;
      messages = c.messages.ensures h (subst (IsPageTraffic h) (sym c.traffic.ensures) told.traffic);
      traffic = subst (IsPageTraffic h) (sym c.traffic-2.ensures) told.traffic;
      touched = subst (λ (t : Sizes). HasPageImageCount (IsTouchedPage t h) c.touched.result) sizes
          (subst (HasPageImageCount (IsTouchedPage (judged_sizes_of x.sizes) h)) (sym c.touched.ensures) told.touched.count);
      top = c.in_ok-top.ensures (judged_sizes_of x.sizes) h
          (subst (ArePageTallies (judged_sizes_of x.sizes) h) (sym c.tallies.ensures) told.tallies);
    }
