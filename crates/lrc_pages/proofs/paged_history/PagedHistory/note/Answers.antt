use Rattle.std.proofs.Common.{[], ◌∷◌, ◌∙◌, arith, length-append}
use Rattle.judge.specs.JudgedSizes.{judged_sizes_of}
use Rattle.lrc_pages.proofs.FetchesDue.{page_of_accessed, page_of_within}
use Rattle.lrc_pages.proofs.paged_history.PagedHistory.note.Goals as goal

pub page_accessed-requires : goal.page_accessed-requires
page_accessed-requires c = c.requires.told.1.words

pub note-requires-3-clause-within : goal.note-requires-3-clause-within
note-requires-3-clause-within c =
    let told = c.requires.told.1 in
    page_of_within (judged_sizes_of c.args.self.now.sizes) c.args.event.kind c.page_accessed.result _ told.words c.requires.within.kind
    told.touched.room c.page_accessed.ensures

pub note-requires-4 : goal.note-requires-4
note-requires-4 c =
    let told = c.requires.told.1 in
    (judged_sizes_of c.args.self.now.sizes, c.requires.told.0, told.tallies, told.few, c.requires.within.kind)

pub returns-clause-told : goal.returns-clause-told
returns-clause-told c = λ h told.
    let s = judged_sizes_of c.args.self.now.sizes in
    let e = c.args.event in
    let long = length-append h (e ∷ []) in
    let room = c.if-self-ge-MOST_JUDGED_EVENTS.false in
    let count = told.count in
    record {
      sizes = told.sizes;
      words = told.words;
      same = c.note.ensures.sizes ∙ told.same;
      count = omega arith;
      few = omega arith;
      counts = c.in_ok-note.ensures.tells h told.counts;
      pages = c.note-2.ensures.pages ∙ told.pages;
      copies = c.note-2.ensures.whole s h told.copies;
      touched = c.note-3.ensures s h told.touched (page_of_accessed s e.kind c.page_accessed.result c.page_accessed.ensures);
      tallies = c.note-4.ensures s h told.tallies;
      traffic = c.count.ensures.traffic h told.traffic;
      costs = c.count.ensures.few h told.costs;
    }
