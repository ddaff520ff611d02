use Rattle.std.proofs.Common.{◌≡◌, ◌↔◌, ◌<◌, ℕ, List, [], ◌∷◌, ◌++◌, length, inl, inr, Some, None, true, refl, slice_get, slice_set, slice_index_or, ap, ◌∙◌, sym, subst, arith, rules, true≢false}
use Rattle.std.proofs.lemmas.List.{length-append, length-map, map-set}
use Rattle.std.specs.Option.{option_map}
use Rattle.journal.specs.DidEvent.{event}
use Rattle.journal.specs.declared.event.Event.{Event}
use Rattle.journal.specs.Sizes.{Sizes}
use Rattle.journal.specs.WellFormed.{Ready}
use Rattle.journal.specs.EventsInRange.{EventAddressInRange}
use Rattle.journal.specs.Log.{Log}
use Rattle.vtime.specs.TicksAndJoins.{join}
use Rattle.transit.specs.Letters.{letter}
use Rattle.book.specs.declared.refused.Refused.TheVariants.{NotYet, NoMemory}
use Rattle.journal.specs.ClosingKinds.{closing_awaits_kind}
use Rattle.book.specs.Messages.{message_for}
use Rattle.book.specs.AllowedCalls.{AllowsSignalOfCall}
use Rattle.book.specs.BookInvariant.{book_invariant_state}
use Rattle.book.specs.BookState.{BookState, book_state_time_of}
use Rattle.book.specs.Transitions.{transition_trimmed_by, transition_taken}
use Rattle.book.specs.RepresentedHistory.{Represents}
use Rattle.book.proofs.Calling.IdleCalls.{idle_call_own_time_read}
use Rattle.book.proofs.Calling.Receiving.{IsReceiving, IsReceivingAwaitedRead, reads_receiving, receiving_allows_trim, receiving_log_is, receiving_address, received_book_is, IsReceivedComeRead, receiving_comes, IsFoundToReceive, received_is, received_brings, receiving, receiving_not_idle}
use Rattle.book.proofs.book.Book.take.Goals.{In-Some, After-mail_has_come, After-index-2, In_ok-message, After-index_mut}
use Rattle.book.proofs.book.Book.take.Goals.{After-parts}
use Rattle.book.proofs.book.Book.take.Goals as goal

-- the parts hold the book as it is found
same : (c : After-parts) → book_invariant_state c.parts.inside ≡ c.args.self.now
same c = c.parts.view_is ∙ c.deref_mut-parts.ensures.value ∙ c.self.view_is

pub index-requires : goal.index-requires
index-requires c =
    let r = receiving c.args.self.now c.args.processor c.requires.call.kind c.requires.call.take in
    let e = ap (λ (b : BookState). length b.awaits) (same (goal.at.index-requires c).After-parts) in
    omega (
      arith,
      r.awaits,
      e,
      length-map c.parts.inside.awaits.items (option_map closing_awaits_kind),
      c.parts.inside.awaits.ok.0,
    )

pub unreachable-requires : goal.unreachable-requires
unreachable-requires c =
    let read : IsReceivingAwaitedRead (book_invariant_state c.parts.inside) c.args.self.now c.args.processor c.index.result.now = record {
      all = c.parts.inside.awaits.items;
      kept = refl;
      same = same (goal.at.unreachable-requires c).After-parts;
      may = c.requires.call;
      is = c.index.ensures;
    } in
    receiving_not_idle read c.in_default.is

-- what p waits for
waits : (c : In-Some) → IsReceiving (book_invariant_state c.parts.inside) c.args.processor (closing_awaits_kind c.in-Some.awaited)
waits c =
    let read : IsReceivingAwaitedRead (book_invariant_state c.parts.inside) c.args.self.now c.args.processor c.index.result.now = record {
      all = c.parts.inside.awaits.items;
      kept = refl;
      same = c.parts.view_is ∙ c.deref_mut-parts.ensures.value ∙ c.self.view_is;
      may = c.requires.call;
      is = c.index.ensures;
    } in
    reads_receiving read c.in-Some.awaited c.in-Some.is

-- it has come exactly where p is ready
come : (c : After-mail_has_come) → IsReceiving (book_invariant_state c.parts.inside) c.args.processor (closing_awaits_kind c.in-Some.awaited)
    → (s : Sizes) (h : List Event) → Represents s h c.args.self.now → (c.mail_has_come.result ≡ true) ↔ Ready s h c.args.processor
come c w =
    let read : IsReceivedComeRead (book_invariant_state c.parts.inside) c.args.self.now c.args.processor (closing_awaits_kind c.in-Some.awaited)
    c.mail_has_come.result = record {
      flags = c.deref.result.now;
      same = c.parts.view_is ∙ c.deref_mut-parts.ensures.value ∙ c.self.view_is;
      waits = w;
      flags_are = c.deref.ensures.value;
      is = c.mail_has_come.ensures;
    } in
    receiving_comes read

-- p's timestamp, as it was read
own : (c : After-index-2) → IsReceiving (book_invariant_state c.parts.inside) c.args.processor (closing_awaits_kind c.in-Some.awaited)
    → c.index-2.result.now ≡ book_state_time_of (book_invariant_state c.parts.inside) c.args.processor
own c w = idle_call_own_time_read c.parts.inside.times.items c.args.processor c.index-2.result.now w.times c.index-2.ensures

-- and as it is written
written : (c : After-index_mut) → IsReceiving (book_invariant_state c.parts.inside) c.args.processor (closing_awaits_kind c.in-Some.awaited)
    → c.index_mut.result.now ≡ book_state_time_of (book_invariant_state c.parts.inside) c.args.processor
written c w = idle_call_own_time_read c.parts.inside.times.items c.args.processor c.index_mut.result.now w.times c.index_mut.ensures.value

-- the message is what has come
received : (c : In_ok-message) → c.index-2.result.now ≡ book_state_time_of (book_invariant_state c.parts.inside) c.args.processor
    → message_for (book_invariant_state c.parts.inside) c.args.processor (closing_awaits_kind c.in-Some.awaited) ≡ Some
    (letter c.in_ok-message.message)
received c is =
    let found : IsFoundToReceive (book_invariant_state c.parts.inside) c.args.processor (closing_awaits_kind c.in-Some.awaited)
    (letter c.in_ok-message.message) = record {
      flags = c.deref-2.result.now;
      own = c.index-2.result.now;
      flags_are = c.deref-2.ensures.value;
      own_is = is;
      is = c.in_ok-message.ensures.ok;
    } in
    received_is found

pub mail_has_come-requires-clause-processor : goal.mail_has_come-requires-clause-processor
mail_has_come-requires-clause-processor c = (waits (goal.at.mail_has_come-requires-clause-processor c).In-Some).transit

pub mail_has_come-requires-clause-flag : goal.mail_has_come-requires-clause-flag
mail_has_come-requires-clause-flag c f is =
    subst (λ fs. f < length fs) (sym c.deref.ensures.value)
    ((waits (goal.at.mail_has_come-requires-clause-flag c).In-Some).flag f (ap closing_awaits_kind is)).within

pub returns-then-not-mail_has_come-clause-absent : goal.returns-then-not-mail_has_come-clause-absent
returns-then-not-mail_has_come-clause-absent c s h told =
    let at = goal.at.returns-then-not-mail_has_come-clause-absent c in
    let is = come at.After-mail_has_come (waits at.In-Some) s h told in
    ((λ e ready. absurd (true≢false (sym (is.1 ready) ∙ c.if-not-mail_has_come.true))), (λ isnt. refl))

pub returns-in_err-make_journal_room-clause-absent : goal.returns-in_err-make_journal_room-clause-absent
returns-in_err-make_journal_room-clause-absent c s h told =
    let at = goal.at.returns-in_err-make_journal_room-clause-absent c in
    let is = come at.After-mail_has_come (waits at.In-Some) s h told in (
      λ e ready. (let x : NotYet ≡ c.in_err-make_journal_room.field-0.0 = rw e at c.from_residual.ensures.1 in
          elim c.in_err-make_journal_room.ensures.only [ inl full ↦ absurd (cc (full)) | inr none ↦ absurd (cc (none)) ]),
      λ isnt. absurd (isnt (is.0 c.if-not-mail_has_come.false)),
    )

pub returns-in_err-make_journal_room-clause-err : goal.returns-in_err-make_journal_room-clause-err
returns-in_err-make_journal_room-clause-err c = search rules

pub returns-in_err-make_journal_room-clause-full : goal.returns-in_err-make_journal_room-clause-full
returns-in_err-make_journal_room-clause-full c = search rules

pub index-requires-2 : goal.index-requires-2
index-requires-2 c = omega (arith, (waits (goal.at.index-requires-2 c).In-Some).times, c.parts.inside.times.ok.0)

pub receive_mail-requires-clause-processor : goal.receive_mail-requires-clause-processor
receive_mail-requires-clause-processor c = (waits (goal.at.receive_mail-requires-clause-processor c).In-Some).transit

pub receive_mail-requires-clause-flag : goal.receive_mail-requires-clause-flag
receive_mail-requires-clause-flag c f is =
    let at = goal.at.receive_mail-requires-clause-flag c in
    let w = waits at.In-Some in
    subst (λ fs. AllowsSignalOfCall c.parts.inside.closed fs c.index-2.result.now f) (sym c.deref-2.ensures.value)
    (subst (λ t. AllowsSignalOfCall c.parts.inside.closed c.parts.inside.flags.items t f) (sym (own at.After-index-2 w))
    (w.flag f (ap closing_awaits_kind is)))

pub receive_mail-requires-clause-none : goal.receive_mail-requires-clause-none
receive_mail-requires-clause-none c f is =
    (waits (goal.at.receive_mail-requires-clause-none c).In-Some).none f (ap closing_awaits_kind is)

pub returns-in_err-message-clause-absent : goal.returns-in_err-message-clause-absent
returns-in_err-message-clause-absent c s h told =
    let at = goal.at.returns-in_err-message-clause-absent c in
    let is = come at.After-mail_has_come (waits at.In-Some) s h told in (
      λ e ready. (let x : NotYet ≡ NoMemory = rw e at c.from_residual-in_err-message.ensures.1 in absurd (cc (x))),
      λ isnt. absurd (isnt (is.0 c.if-not-mail_has_come.false)),
    )

pub returns-in_err-message-clause-err : goal.returns-in_err-message-clause-err
returns-in_err-message-clause-err c = search rules

pub returns-in_err-message-clause-full : goal.returns-in_err-message-clause-full
returns-in_err-message-clause-full c = search rules

pub append-requires-clause-processor : goal.append-requires-clause-processor
append-requires-clause-processor c =
    let lt = (waits (goal.at.append-requires-clause-processor c).In-Some).journal in
    let e = ap (λ (l : Log). l.processors) c.in_ok-make_journal_room.ensures.same in
    omega arith

pub append-requires-clause-address : goal.append-requires-clause-address
append-requires-clause-address c =
    subst (λ k. EventAddressInRange c.make_journal_room.new.journal.addresses k) (sym c.kind-kind.ensures)
    (receiving_address c.make_journal_room.new.journal.addresses (closing_awaits_kind c.in-Some.awaited)
    (waits (goal.at.append-requires-clause-address c).In-Some).takes)

pub index_mut-requires : goal.index_mut-requires
index_mut-requires c = omega (arith, (waits (goal.at.index_mut-requires c).In-Some).times, c.parts.inside.times.ok.0)

pub index-requires-3 : goal.index-requires-3
index-requires-3 c = omega (arith, (waits (goal.at.index-requires-3 c).In-Some).times, c.parts.inside.times.ok.0)

pub join-requires : goal.join-requires
join-requires c =
    let at = goal.at.join-requires c in
    let w = waits at.In-Some in
    ap (λ (t : List ℕ). length t) c.time.ensures
    ∙ w.long (letter c.in_ok-message.message) (received at.In_ok-message (own at.After-index-2 w))
    ∙ sym (ap length (written at.After-index_mut w) ∙ w.own_long)

pub index_mut-requires-2 : goal.index_mut-requires-2
index_mut-requires-2 c =
    let w = waits (goal.at.index_mut-requires-2 c).In-Some in
    omega (arith, w.awaits, length-map c.parts.inside.awaits.items (option_map closing_awaits_kind), c.parts.inside.awaits.ok.0)

pub leave-requires : goal.leave-requires
leave-requires c is =
    let at = goal.at.leave-requires c in
    let w = waits at.In-Some in
    w.free (letter c.in_ok-message.message) (received at.In_ok-message (own at.After-index-2 w)) (ap closing_awaits_kind is)

pub trim-requires : goal.trim-requires
trim-requires c =
    let at = goal.at.trim-requires c in
    let w = waits at.In-Some in
    receiving_allows_trim w c.join.new.self c.deref-3.ensures.value
    (c.join.ensures.same_length ∙ ap length (written at.After-index_mut w) ∙ w.own_long)
    (c.copy-before.ensures
    ∙ idle_call_own_time_read c.parts.inside.times.items c.args.processor c.index-3.result.now w.times c.index-3.ensures)

pub invariant_of-parts-2 : goal.invariant_of-parts-2
invariant_of-parts-2 c =
    let room = ap (λ (l : Log). l.room) c.append.ensures in
    let events = ap (λ (l : Log). length l.events) c.append.ensures in
    let before = ap (λ (l : Log). length l.events) c.in_ok-make_journal_room.ensures.same in
    let more = length-append c.make_journal_room.new.journal.events (event c.args.processor c.kind-kind.result ∷ []) in
    record {
      room = omega (arith, room, c.in_ok-make_journal_room.ensures.ok.0);
      owing = omega arith;
      few = omega (arith, events, before, more, c.in_ok-make_journal_room.ensures.ok.1);
    }

-- the message is what p waited for
was_due : (c : In_ok-message) → c.index-2.result.now ≡ book_state_time_of (book_invariant_state c.parts.inside) c.args.processor
    → message_for c.args.self.now c.args.processor (closing_awaits_kind c.in-Some.awaited) ≡ Some (letter c.in_ok-message.message)
was_due c is =
    ap (λ (b : BookState). message_for b c.args.processor (closing_awaits_kind c.in-Some.awaited))
    (sym (c.parts.view_is ∙ c.deref_mut-parts.ensures.value ∙ c.self.view_is)) ∙ received c is

pub returns-clause-ok : goal.returns-clause-ok
returns-clause-ok c =
    let at = goal.at.returns-clause-ok c in
    let w = waits at.In-Some in
    let m = letter c.in_ok-message.message in
    let log = receiving_log_is c.parts.inside.journal c.make_journal_room.new.journal c.append.new.self c.parts.inside.owing
    (event c.args.processor c.kind-kind.result) c.in_ok-make_journal_room.ensures.same c.append.ensures
    ∙ ap (λ k. record c.parts.inside.journal
    { events = c.parts.inside.journal.events ++ event c.args.processor k ∷ []; room = c.parts.inside.owing })
    c.kind-kind.ensures in
    let time = c.join.ensures.value ∙ ap (λ (t : List ℕ). join t c.time.result.now) (written at.After-index_mut w)
    ∙ ap (λ (t : List ℕ). join (slice_index_or c.parts.inside.times.items c.args.processor []) t) c.time.ensures in
    let closed = c.trim.ensures
    ∙ ap (λ (ts : List (List ℕ)). transition_trimmed_by c.parts.inside.closed ts (length ts)) c.deref-3.ensures.value in
    record {
      kind = closing_awaits_kind c.in-Some.awaited;
      awaits = ap (λ (b : BookState). slice_get b.awaits c.args.processor) (sym (same (goal.at.returns-clause-ok c).After-parts))
          ∙ w.waits;
      message = was_due at.In_ok-message (own at.After-index-2 w);
      after = received_book_is (book_invariant_state c.parts.inside) c.args.processor (closing_awaits_kind c.in-Some.awaited) m _ (record {
        takes = w.takes;
        journal = log;
        times = ap (λ (t : List ℕ). slice_set c.parts.inside.times.items c.args.processor t) time;
        closed = closed;
        awaits = map-set (option_map closing_awaits_kind) c.parts.inside.awaits.items c.args.processor None;
        transit = c.in_ok-message.ensures.after;
        barrier = c.leave.ensures;
        others = refl;
      }) ∙ ap (λ (b : BookState). transition_taken b c.args.processor (closing_awaits_kind c.in-Some.awaited) m)
          (same (goal.at.returns-clause-ok c).After-parts);
    }

pub returns-clause-brings : goal.returns-clause-brings
returns-clause-brings c =
    let at = goal.at.returns-clause-brings c in
    let w = waits at.In-Some in
    received_brings c.args.self.now c.args.processor (closing_awaits_kind c.in-Some.awaited) (letter c.in_ok-message.message)
    (ap (λ (b : BookState). slice_get b.awaits c.args.processor) (sym (same (goal.at.returns-clause-brings c).After-parts))
    ∙ w.waits)
    (was_due at.In_ok-message (own at.After-index-2 w))

pub returns-clause-absent : goal.returns-clause-absent
returns-clause-absent c s h told =
    let at = goal.at.returns-clause-absent c in
    let is = come at.After-mail_has_come (waits at.In-Some) s h told in
    ((λ e ready. absurd (cc (e))), (λ isnt. absurd (isnt (is.0 c.if-not-mail_has_come.false))))
