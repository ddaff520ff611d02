use Rattle.std.proofs.Common.{◌≡◌, map, Option, slice_get, ap, ◌∙◌, sym, subst, arith, rules}
use Rattle.std.specs.Arc.{arc_value}
use Rattle.std.specs.Option.{option_map}
use Rattle.journal.specs.declared.event.Kind.TheVariants.{Ask}
use Rattle.base.specs.InOrderOnce.{Has}
use Rattle.lockq.specs.LockQueues.{lock_queue_at, lock_queue_line}
use Rattle.transit.specs.Letters.{letter}
use Rattle.transit.specs.declared.message.Message.{Message}
use Rattle.book.specs.BookState.{BookState}
use Rattle.book.specs.Transitions.{transition_handed_in, transition_closed_by, transition_if_free, transition_grant}
use Rattle.book.specs.BookInvariant.{book_invariant_state}
use Rattle.book.specs.declared.book.Book.TheInside.{Inside}
use Rattle.book.proofs.Calling.IdleCalls.{idle_call_stands, idle_call_still_open, idle_call_open_with_room, IsClosedByIdleCallWithRoom, idle_call_closed_with_room}
use Rattle.book.proofs.Calling.AskAndSetCalls.{IsAskCall, ask_call_allowed, ask_call_granted, ask_call_waits}
use Rattle.book.proofs.book.Book.ask.Goals.{After-parts, After-parts-2, In_ok-grant, in-Some, in_default}
use Rattle.book.proofs.book.Book.ask.Goals as goal

-- the parts hold the book as it is found
same : (c : After-parts) → book_invariant_state c.parts.inside ≡ c.args.self.now
same c = c.parts.view_is ∙ c.deref_mut-parts.ensures.value ∙ c.self.view_is

pub open_interval-interval-requires : goal.open_interval-interval-requires
open_interval-interval-requires c =
    idle_call_open_with_room c.parts.inside _ _ _ c.args.processor c.in_ok-make_journal_room.ensures.same
    (same (goal.at.open_interval-interval-requires c).After-parts) c.requires.call.call

pub close-requires-clause-open : goal.close-requires-clause-open
close-requires-clause-open c =
    idle_call_still_open (book_invariant_state c.parts.inside) c.args.processor c.open_interval-interval.result (map arc_value c.args.records.items)
    c.open_interval-interval.ensures

pub grant_if_free-requires-clause-processor : goal.grant_if_free-requires-clause-processor
grant_if_free-requires-clause-processor c =
    (idle_call_stands (book_invariant_state c.parts.inside)
    c.args.self.now c.args.processor c.args.block.now (same (goal.at.grant_if_free-requires-clause-processor c).After-parts)
    c.requires.call.call).times

-- what the ask rests on
asks : (c : After-parts) → IsAskCall (book_invariant_state c.parts.inside) c.args.processor c.args.lock
asks c =
    subst (λ b. IsAskCall b c.args.processor c.args.lock) (sym (same c))
    (ask_call_allowed c.args.self.now c.args.processor c.args.lock c.args.block.now c.requires.call)

pub grant_if_free-requires-clause-keeps : goal.grant_if_free-requires-clause-keeps
grant_if_free-requires-clause-keeps c = (asks (goal.at.grant_if_free-requires-clause-keeps c).After-parts).keeps

-- the book once the interval is closed
closed : (c : After-parts-2) → book_invariant_state c.parts-2.inside
    ≡ transition_closed_by (transition_handed_in c.args.self.now c.args.block.now) c.args.processor (Ask c.args.lock)
    (map arc_value c.args.records.items)
closed c =
    let is : IsClosedByIdleCallWithRoom c.parts.inside c.args.self.now (book_invariant_state c.parts-2.inside) c.args.block.now c.args.processor
    (Ask c.args.lock) (map arc_value c.args.records.items) = record {
      log = c.make_journal_room.new.journal;
      i = c.open_interval-interval.result;
      made = c.in_ok-make_journal_room.ensures.same;
      same = c.parts.view_is ∙ c.deref_mut-parts.ensures.value ∙ c.self.view_is;
      opened = c.open_interval-interval.ensures;
      closed = c.parts-2.view_is ∙ c.in_ok-close.ensures.ok;
    } in
    idle_call_closed_with_room is

pub ask-requires-clause-processor : goal.ask-requires-clause-processor
ask-requires-clause-processor c =
    let lt = (ask_call_allowed c.args.self.now c.args.processor c.args.lock c.args.block.now c.requires.call).processor in
    let e = ap (λ (b : BookState). b.locks.processors) (closed (goal.at.ask-requires-clause-processor c).After-parts-2) in
    omega arith

pub ask-requires-clause-apart : goal.ask-requires-clause-apart
ask-requires-clause-apart c =
    subst (λ (x : _). ¬ Has (lock_queue_line (lock_queue_at x c.args.lock)) c.args.processor)
    (sym (ap (λ (b : BookState). b.locks) (closed (goal.at.ask-requires-clause-apart c).After-parts-2)))
    (ask_call_allowed c.args.self.now c.args.processor c.args.lock c.args.block.now c.requires.call).apart

pub post-requires : goal.post-requires
post-requires c =
    ap (λ (b : BookState). slice_get b.transit c.args.processor) (closed (goal.at.post-requires c).After-parts-2)
    ∙ (ask_call_allowed c.args.self.now c.args.processor c.args.lock c.args.block.now c.requires.call).none

-- the grant, read off the book before the call
made : (c : In_ok-grant) → option_map letter c.in_ok-grant.grant
    ≡ transition_if_free (lock_queue_at c.args.self.now.locks c.args.lock).holder
    (transition_grant c.args.self.now c.args.processor (lock_queue_at c.args.self.now.locks c.args.lock).time)
made c =
    c.in_ok-grant.ensures ∙ ap (λ (b : BookState). transition_if_free (lock_queue_at b.locks c.args.lock).holder
    (transition_grant b c.args.processor (lock_queue_at b.locks c.args.lock).time))
    (c.parts.view_is ∙ c.deref_mut-parts.ensures.value ∙ c.self.view_is)

pub returns : goal.returns
returns c =
    let at = goal.at.returns c in
    let records = map arc_value c.args.records.items in
    record {
      ok = elim c.match-grant-4.branch [
        | in-Some x ↦ ap (λ (i : Inside). i.parts.value) x.self-inside-is
            ∙ ask_call_granted c.args.self.now (book_invariant_state c.parts-2.inside) c.args.processor c.args.lock c.args.block.now records
            c.requires.call (closed at.After-parts-2) c.ask.new.self c.ask.ensures.locks
            x.post.new.self (letter x.in-Some.message) x.post.ensures
            (sym (ap (λ (m : Option Message). option_map letter m) x.in-Some.is) ∙ made at.In_ok-grant)
        | in_default x ↦ ap (λ (i : Inside). i.parts.value) x.self-inside-is
            ∙ ask_call_waits c.args.self.now (book_invariant_state c.parts-2.inside) c.args.processor c.args.lock c.args.block.now records
            c.requires.call (closed at.After-parts-2) c.ask.new.self c.ask.ensures.locks
            (sym (ap (λ (m : Option Message). option_map letter m) x.in_default.is) ∙ made at.In_ok-grant)
      ];
      err = search rules;
      full = search rules;
      only = search rules;
    }
