use Rattle.std.proofs.Common.{slice_index}
use Rattle.lrc_pages.specs.MostFetched.{IsFirstBelow}
use Rattle.lrc_pages.proofs.top_pages.next_most_fetched.Given as goal

-- the first one among the pages so far
abbrev pub invariant-loop-page : goal.invariant-loop-page
invariant-loop-page l = IsFirstBelow (slice_index l.fetches) l.last l.page l.best
