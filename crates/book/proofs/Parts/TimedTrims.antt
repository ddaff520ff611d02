-- The closed intervals and the timestamps of a book, and what a trim by everyone's timestamps leaves of them.
use Rattle.std.proofs.Common.{◌≡◌, ℕ, zero, suc, ◌<◌, ◌≤◌, List, [], Some, length, slice_get, slice_index, slice_index_or, refl, ◌∙◌, arith}
use Rattle.journal.specs.declared.event.Event.{Event}
use Rattle.journal.specs.Sizes.{Sizes}
use Rattle.journal.specs.Pasts.{InPast}
use Rattle.interval.specs.KeptClosings.{KeptClosings, kept_closings_between}
use Rattle.interval.proofs.News.BetweenUnchanged.{between_unchanged_by_trim}
use Rattle.book.specs.BookStamps.{EachStampedAt, IsBookStamp}
use Rattle.book.specs.KeptIntervals.{AreKeptIntervals, KeepsUncoveredIntervals, AreKeptIntervalsTight}
use Rattle.book.specs.Transitions.{transition_least, transition_trimmed_by}
use Rattle.book.proofs.Parts.Each.{each_item_at}
use Rattle.book.proofs.Parts.BookIntervals.{book_intervals_trimmed, book_intervals_covered_trimmed, book_interval_least_le}
use Rattle.book.proofs.Parts.TightTrims.{tight_after_trim}

-- the history tells these closed intervals and these timestamps, and none is dropped that someone doesn't cover
pub record AreTimedForTrim (s : Sizes) (h : List Event) (c : KeptClosings) (ts : List (List ℕ)) : Type 0 where
  pub closed : AreKeptIntervals s h c
  pub times : EachStampedAt s.processors (λ p t. IsBookStamp s.processors h (InPast h p) t) ts
  pub within : KeepsUncoveredIntervals c.first ts

-- what is between two timestamps, one of which is among these, is trimmed by none of them
pub timed_trims_leave_between : (c : KeptClosings) (ts : List (List ℕ)) (n p : ℕ) (own new : List ℕ) → slice_get ts p ≡ Some own
    → kept_closings_between (transition_trimmed_by c ts n) own new ≡ kept_closings_between c own new
timed_trims_leave_between c ts zero p own new at = refl
timed_trims_leave_between c ts (suc n) p own new at =
    between_unchanged_by_trim (transition_trimmed_by c ts n) n (transition_least ts n) own new (book_interval_least_le ts n p own at)
    ∙ timed_trims_leave_between c ts n p own new at

module _ (s : Sizes) (h : List Event) (c : KeptClosings) (ts : List (List ℕ)) (timed : AreTimedForTrim s h c ts) where
  timed_trim_first : (n : ℕ) → n ≤ s.processors → AreTimedForTrim s h (transition_trimmed_by c ts n) ts
  timed_trim_first zero le = timed
  timed_trim_first (suc n) le =
      let old = timed_trim_first n (omega arith) in
      let long = old.closed.first_long in
      record {
        closed = book_intervals_trimmed s h (transition_trimmed_by c ts n) n (transition_least ts n) (omega arith) old.closed;
        times = old.times;
        within = book_intervals_covered_trimmed (transition_trimmed_by c ts n) n (transition_least ts n) ts (λ p t at. book_interval_least_le ts n p t at) (omega arith)
            old.within;
      }

  -- no more intervals are covered than are closed
  timed_trim_least_few : (q : ℕ) → q < s.processors → transition_least ts q ≤ slice_index c.next q
  timed_trim_least_few q lt =
      let own = each_item_at s.processors (λ p t. IsBookStamp s.processors h (InPast h p) t) ts q [] timed.times lt in
      let most = (timed.times.each q (slice_index_or ts q []) own).is.within q in
      let low = book_interval_least_le ts q q (slice_index_or ts q []) own in
      let next = timed.closed.next q lt in
      omega arith

  -- all that everyone covers is trimmed
  pub timed_trim_is_timed : AreTimedForTrim s h (transition_trimmed_by c ts (length ts)) ts
  timed_trim_is_timed = let long = timed.times.long in timed_trim_first (length ts) (omega arith)

  pub timed_trim_tight : 0 < s.processors → AreKeptIntervalsTight (transition_trimmed_by c ts (length ts)).first ts
  timed_trim_tight some =
      let long = timed.times.long in
      let first_long = timed.closed.first_long in
      tight_after_trim c ts (length ts) (omega arith) (omega arith) (λ q lt. timed_trim_least_few q (omega arith))
