use Rattle.std.proofs.Common.{◌≡◌, ℕ, ◌+◌, map, length, List, IfSome, slice_index, ap, ◌∙◌, sym, subst, arith, rules}
use Rattle.std.proofs.lemmas.List.{length-set}
use Rattle.std.specs.Arc.{arc_value}
use Rattle.std.specs.Option.{option_map}
use Rattle.journal.specs.declared.event.Kind.TheVariants.{Release}
use Rattle.lockq.specs.LockQueues.{lock_queue_at}
use Rattle.vtime.specs.TicksAndJoins.{tick}
use Rattle.book.specs.BookState.{BookState, book_state_time_of}
use Rattle.book.specs.Transitions.{transition_addressed, transition_handed_in, transition_closed_by}
use Rattle.book.specs.AllowedCalls.{AllowsNoticesOfCall}
use Rattle.book.specs.BookInvariant.{book_invariant_state}
use Rattle.book.proofs.Parts.HeldHistory.{held_history_happened_fits}
use Rattle.book.proofs.Calling.IdleCalls.{idle_call_stands, idle_call_still_open, idle_call_open_with_room, IsClosedByIdleCallWithRoom, idle_call_closed_with_room}
use Rattle.book.proofs.Calling.Releases.{IsReleasing, IsReleaseLeaving, IsReleaseGrantRead, releases, releasing, releasing_sends_next, grant_before_release, release_grant_read, released_finds_no_mail, released_posted}
use Rattle.book.proofs.book.Book.release.Goals.{After-parts, After-closing_time-time, After-parts-2, In_ok-grant}
use Rattle.book.proofs.book.Book.release.Goals as goal

-- the parts hold the book as it is found
same : (c : After-parts) → book_invariant_state c.parts.inside ≡ c.args.self.now
same c = c.parts.view_is ∙ c.deref_mut-parts.ensures.value ∙ c.self.view_is

pub open_interval-interval-requires : goal.open_interval-interval-requires
open_interval-interval-requires c =
    idle_call_open_with_room c.parts.inside _ _ _ c.args.processor c.in_ok-make_journal_room.ensures.same
    (same (goal.at.open_interval-interval-requires c).After-parts) c.requires.call.call

pub close-requires-clause-open : goal.close-requires-clause-open
close-requires-clause-open c =
    idle_call_still_open (book_invariant_state c.parts.inside) c.args.processor c.open_interval-interval.result (map arc_value c.args.records.items)
    c.open_interval-interval.ensures

pub closing_time-time-requires-clause-open : goal.closing_time-time-requires-clause-open
closing_time-time-requires-clause-open c =
    idle_call_open_with_room c.parts.inside _ _ _ c.args.processor c.in_ok-make_journal_room.ensures.same
    (same (goal.at.closing_time-time-requires-clause-open c).After-parts) c.requires.call.call

pub closing_time-time-requires-clause-fits : goal.closing_time-time-requires-clause-fits
closing_time-time-requires-clause-fits c =
    let few = (idle_call_stands (book_invariant_state c.parts.inside)
    c.args.self.now c.args.processor c.args.block.now (same (goal.at.closing_time-time-requires-clause-fits c).After-parts)
    c.requires.call.call).few in
    let all = held_history_happened_fits c.parts.inside.journal c.parts.inside.owing c.parts.invariant.few in
    omega arith

-- what the release rests on
rests : (c : After-closing_time-time) → IsReleasing (book_invariant_state c.parts.inside) c.args.processor c.args.lock
rests c =
    releases (book_invariant_state c.parts.inside) c.args.self.now c.args.processor c.args.lock c.args.block.now
    (c.parts.view_is ∙ c.deref_mut-parts.ensures.value ∙ c.self.view_is) c.requires.call

-- the timestamp after the release is as long as the one before
long : (c : After-closing_time-time)
    → length c.closing_time-time.result ≡ length (book_state_time_of (book_invariant_state c.parts.inside) c.args.processor)
long c =
    ap (λ (t : List ℕ). length t) c.closing_time-time.ensures
    ∙ length-set (book_state_time_of (book_invariant_state c.parts.inside) c.args.processor) c.args.processor
    (slice_index (book_state_time_of (book_invariant_state c.parts.inside) c.args.processor) c.args.processor + 1)

pub grant_mail_to-requires-clause-long : goal.grant_mail_to-requires-clause-long
grant_mail_to-requires-clause-long c =
    let at = (goal.at.grant_mail_to-requires-clause-long c).After-closing_time-time in long at ∙ (rests at).own_long

pub grant_mail_to-requires-clause-next : goal.grant_mail_to-requires-clause-next
grant_mail_to-requires-clause-next c =
    subst (λ (ts : List (List ℕ)). IfSome c.next.result (λ r. AllowsNoticesOfCall c.parts.inside.closed ts r))
    (sym c.deref.ensures.value)
    (releasing_sends_next (book_invariant_state c.parts.inside) c.args.processor c.args.lock c.next.result
    (rests (goal.at.grant_mail_to-requires-clause-next c).After-closing_time-time) c.next.ensures)

-- the book once the interval is closed
closed : (c : After-parts-2) → book_invariant_state c.parts-2.inside
    ≡ transition_closed_by (transition_handed_in c.args.self.now c.args.block.now) c.args.processor (Release c.args.lock)
    (map arc_value c.args.records.items)
closed c =
    let is : IsClosedByIdleCallWithRoom c.parts.inside c.args.self.now (book_invariant_state c.parts-2.inside) c.args.block.now c.args.processor
    (Release c.args.lock) (map arc_value c.args.records.items) = record {
      log = c.make_journal_room.new.journal;
      i = c.open_interval-interval.result;
      made = c.in_ok-make_journal_room.ensures.same;
      same = c.parts.view_is ∙ c.deref_mut-parts.ensures.value ∙ c.self.view_is;
      opened = c.open_interval-interval.ensures;
      closed = c.parts-2.view_is ∙ c.in_ok-close.ensures.ok;
    } in
    idle_call_closed_with_room is

pub release-requires-clause-holder : goal.release-requires-clause-holder
release-requires-clause-holder c =
    ap (λ (b : BookState). (lock_queue_at b.locks c.args.lock).holder)
    (closed (goal.at.release-requires-clause-holder c).After-parts-2)
    ∙ (releasing c.args.self.now c.args.processor c.args.lock c.args.block.now c.requires.call).holder

pub release-requires-clause-long : goal.release-requires-clause-long
release-requires-clause-long c =
    let at = (goal.at.release-requires-clause-long c).After-closing_time-time in
    long at ∙ (rests at).lock_long ∙ ap (λ (b : BookState). b.locks.processors)
    (same (goal.at.release-requires-clause-long c).After-parts)
    ∙ sym (ap (λ (b : BookState). b.locks.processors) (closed (goal.at.release-requires-clause-long c).After-parts-2))

-- the grant and who is to have it, read off the book before the call
made : (c : In_ok-grant) → option_map transition_addressed c.in_ok-grant.grant
    ≡ grant_before_release c.args.self.now c.args.processor c.args.lock (map arc_value c.args.records.items) c.closing_time-time.result
made c =
    let read : IsReleaseGrantRead (book_invariant_state c.parts.inside) c.args.processor c.args.lock (map arc_value c.args.records.items)
    c.closing_time-time.result (option_map transition_addressed c.in_ok-grant.grant) = record {
      interval = c.open_interval-interval.result;
      times = c.deref.result.now;
      next = c.next.result;
      opened = c.open_interval-interval.ensures;
      all = c.deref.ensures.value;
      first = c.next.ensures;
      made = c.in_ok-grant.ensures;
    } in
    release_grant_read read (c.parts.view_is ∙ c.deref_mut-parts.ensures.value ∙ c.self.view_is)

-- what the release leaves
leaving : (c : In_ok-grant) (b : BookState)
    → b ≡ transition_closed_by (transition_handed_in c.args.self.now c.args.block.now) c.args.processor (Release c.args.lock)
    (map arc_value c.args.records.items)
    → IsReleaseLeaving c.args.self.now b c.args.processor c.args.lock c.args.block.now (map arc_value c.args.records.items)
    c.closing_time-time.result
leaving c b closed = record {
  may = c.requires.call;
  closed = closed;
  time = c.closing_time-time.ensures
      ∙ ap (λ (b : BookState). tick (book_state_time_of b c.args.processor) c.args.processor)
      (c.parts.view_is ∙ c.deref_mut-parts.ensures.value ∙ c.self.view_is);
}

pub post_grant_mail-requires : goal.post_grant_mail-requires
post_grant_mail-requires c =
    let at = goal.at.post_grant_mail-requires c in
    released_finds_no_mail (leaving at.In_ok-grant (book_invariant_state c.parts-2.inside) (closed at.After-parts-2))
    c.in_ok-grant.grant (made at.In_ok-grant)

pub returns : goal.returns
returns c =
    let at = goal.at.returns c in
    record {
      ok = released_posted (leaving at.In_ok-grant (book_invariant_state c.parts-2.inside) (closed at.After-parts-2))
          c.release.new.self c.post_grant_mail.new.transit c.in_ok-grant.grant c.release.ensures.locks c.post_grant_mail.ensures
          (made at.In_ok-grant);
      err = search rules;
      full = search rules;
      only = search rules;
    }
