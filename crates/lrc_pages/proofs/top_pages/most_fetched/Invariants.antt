use Rattle.std.proofs.Common.{◌≡◌, ◌<◌, length, slice_index}
use Rattle.std.specs.Prelude.{IfSome}
use Rattle.lrc_pages.proofs.ToldPages.{AreToldSoFar}
use Rattle.lrc_pages.proofs.top_pages.most_fetched.Given as goal

-- so many are told so far
abbrev pub invariant-loop : goal.invariant-loop
invariant-loop l = record {
  long : length l.pages.items ≡ l.counter;
  within : IfSome l.last (λ n. n < length l.fetches);
  told : AreToldSoFar (slice_index l.fetches) l.last l.pages.items;
}
