-- The notices below the index are counted.
use Rattle.std.proofs.Common.{◌≡◌, ◌<◌, ℕ, length, take, count_by, slice_index}
use Rattle.interval.specs.KeptClosings.{is_kept_closing_of_page}
use Rattle.book.proofs.protocol.counting.count_pages.Given as goal

abbrev pub invariant-loop-sent : goal.invariant-loop-sent
invariant-loop-sent l = record {
  long : length l.counts ≡ length l.initial.counts;
  each : (n : ℕ) → n < length l.counts → slice_index l.counts n ≡ count_by (is_kept_closing_of_page n) (take l.sent-index l.notices);
}
