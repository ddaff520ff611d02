use Rattle.std.proofs.Common.{◌≡◌, slice_index, take}
use Rattle.base.specs.InOrderOnce.{Has}
use Rattle.lrc_pages.specs.declared.top_pages.TopPage.{TopPage}
use Rattle.lrc_pages.specs.MostFetched.{top_page_numbers}
use Rattle.lrc_pages.proofs.top_pages.top_pages.Given as goal

-- what is told so far is of the pages so far
abbrev pub invariant-loop-at : goal.invariant-loop-at
invariant-loop-at l = record {
  numbers : top_page_numbers l.tops.items ≡ take l.at l.pages.items;
  fetches : (t : TopPage) → Has l.tops.items t → t.fetches ≡ slice_index l.tallies.fetches.items t.page;
  words : (t : TopPage) → Has l.tops.items t → t.words ≡ slice_index l.tallies.words.items t.page;
}
