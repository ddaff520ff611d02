use Rattle.std.proofs.Common.{◌≡◌, [], take}
use Rattle.judge.specs.JudgedSizes.{judged_sizes_of}
use Rattle.lrc_pages.specs.PagedTraces.{ArePagedTraces, paged_words}
use Rattle.lrc_pages.proofs.page_stream.begun_on_pages.Given as goal

abbrev pub invariant-loop-at : goal.invariant-loop-at
invariant-loop-at l = record {
  words : paged_words l.histories.items ≡ take l.at l.words;
  told : ArePagedTraces (judged_sizes_of l.sizes) [] l.histories.items;
}
