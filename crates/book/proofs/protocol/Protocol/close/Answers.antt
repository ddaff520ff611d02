use Rattle.std.proofs.Common.{◌≡◌, ◌<◌, true, length, map, slice_index, slice_set, subst, sym, refl, ap, ◌∙◌, arith, rules}
use Rattle.std.proofs.lemmas.List.{length-map, map-set}
use Rattle.std.proofs.lemmas.Grind.{elements}
use Rattle.std.specs.Option.{option_map}
use Rattle.journal.specs.Log.{Log}
use Rattle.vtime.specs.TicksAndJoins.{tick}
use Rattle.interval.specs.SentIntervals.{ClosedInterval}
use Rattle.interval.specs.KeptClosings.{kept_closings_pushed}
use Rattle.journal.specs.DidEvent.{event}
use Rattle.journal.specs.ClosingKinds.{closing_awaits_kind}
use Rattle.journal.specs.Events.{event_closes}
use Rattle.journal.specs.AwaitedNext.{awaited_next}
use Rattle.journal.proofs.Journals.EveryClosing.{every_closing_closes}
use Rattle.book.specs.BookState.{BookState, book_state_time_of}
use Rattle.book.specs.Transitions.{transition_handed_in, transition_open_interval, transition_closed_by}
use Rattle.book.specs.BookInvariant.{book_invariant_state}
use Rattle.book.proofs.Parts.HeldHistory.{held_history_happened_fits}
use Rattle.book.proofs.Calling.IdleCalls.{StandsForIdleCall, idle_call_stands, idle_call_own_time_read, idle_call_flushes, idle_call_block_fits, idle_call_closing_address, idle_call_logs_are, idle_call_closed_is}
use Rattle.book.proofs.protocol.Protocol.close.Goals.{After-self, After-index_mut}
use Rattle.book.proofs.protocol.Protocol.close.Goals as goal

-- numbers of the book as it is found
standing : (c : After-self) → StandsForIdleCall (book_invariant_state c.self.inside) c.args.processor
standing c = idle_call_stands (book_invariant_state c.self.inside) c.args.self.now c.args.processor c.args.block.now c.self.view_is c.requires.call

-- p's timestamp, as it is read
own : (c : After-index_mut) → StandsForIdleCall (book_invariant_state c.self.inside) c.args.processor
    → c.index_mut.result.now ≡ book_state_time_of (book_invariant_state c.self.inside) c.args.processor
own c st = idle_call_own_time_read c.self.inside.times.items c.args.processor c.index_mut.result.now st.times c.index_mut.ensures.value

pub push-requires-clause-owner : goal.push-requires-clause-owner
push-requires-clause-owner c =
    subst (λ q. q < length c.self.inside.closed.next) (sym (ap (λ (i : ClosedInterval). i.owner) c.requires.open))
    (standing (goal.at.push-requires-clause-owner c).After-self).next

pub push-requires-clause-number : goal.push-requires-clause-number
push-requires-clause-number c =
    let open_is = c.requires.open
    ∙ ap (λ (b : BookState). transition_open_interval b c.args.processor c.args.interval.records) (sym c.self.view_is) in
    ap (λ (i : ClosedInterval). i.number) open_is
    ∙ (standing (goal.at.push-requires-clause-number c).After-self).number
    ∙ ap (λ q. slice_index c.self.inside.closed.next q)
    (sym (ap (λ (i : ClosedInterval). i.owner) c.requires.open))

pub push-requires-clause-fits : goal.push-requires-clause-fits
push-requires-clause-fits c =
    let few = (standing (goal.at.push-requires-clause-fits c).After-self).pushed in
    let all = held_history_happened_fits c.self.inside.journal c.self.inside.owing c.self.invariant.few in
    omega arith

pub append_in_journal_room-requires-clause-processor : goal.append_in_journal_room-requires-clause-processor
append_in_journal_room-requires-clause-processor c =
    (idle_call_block_fits c.self.inside c.self.view_is c.in_ok-make_journal_room.ensures.same
    (idle_call_flushes _ c.args.processor c.args.block.now c.requires.call)).0

pub append_in_journal_room-requires-clause-address : goal.append_in_journal_room-requires-clause-address
append_in_journal_room-requires-clause-address c =
    (idle_call_block_fits c.self.inside c.self.view_is c.in_ok-make_journal_room.ensures.same
    (idle_call_flushes _ c.args.processor c.args.block.now c.requires.call)).1

pub append-requires-clause-processor : goal.append-requires-clause-processor
append-requires-clause-processor c =
    let first = ap (λ (l : Log). l.processors) c.in_ok-make_journal_room.ensures.same in
    let second = ap (λ (l : Log). l.processors) c.append_in_journal_room.ensures in
    let lt = (standing (goal.at.append-requires-clause-processor c).After-self).journal in
    omega arith

pub append-requires-clause-address : goal.append-requires-clause-address
append-requires-clause-address c = idle_call_closing_address c.append_in_journal_room.new.journal.addresses c.kind-kind.result
    (subst (λ k. event_closes k ≡ true) (sym c.kind-kind.ensures) (every_closing_closes c.args.closing))

pub index_mut-requires : goal.index_mut-requires
index_mut-requires c =
    omega (arith, (standing (goal.at.index_mut-requires c).After-self).times, c.self.inside.times.ok.0)

pub tick-requires-clause-in_range : goal.tick-requires-clause-in_range
tick-requires-clause-in_range c =
    let at = goal.at.tick-requires-clause-in_range c in
    let st = standing at.After-self in
    let lt = st.own in
    let e = ap length (own at.After-index_mut st) in
    omega arith

pub tick-requires-clause-fits : goal.tick-requires-clause-fits
tick-requires-clause-fits c =
    let at = goal.at.tick-requires-clause-fits c in
    let st = standing at.After-self in
    let few = st.few in
    let all = held_history_happened_fits c.self.inside.journal c.self.inside.owing c.self.invariant.few in
    let e = ap (λ ts. slice_index ts c.args.processor) (own at.After-index_mut st) in
    omega arith

pub index_mut-requires-2 : goal.index_mut-requires-2
index_mut-requires-2 c =
    let lt = (standing (goal.at.index_mut-requires-2 c).After-self).awaits in
    omega (arith, length-map c.self.inside.awaits.items (option_map closing_awaits_kind), c.self.inside.awaits.ok.0)

pub returns : goal.returns
returns c =
    let at = goal.at.returns c in
    let records = c.args.interval.records in
    let log = idle_call_logs_are c.self.inside.journal c.self.inside.owing c.args.block.now
    (event c.args.processor c.kind-kind.result) c.in_ok-make_journal_room.ensures.same c.append_in_journal_room.ensures c.append.ensures in
    let closed = c.in_ok-push.ensures.ok ∙ ap (λ (i : ClosedInterval). kept_closings_pushed c.self.inside.closed i) c.requires.open
    ∙ ap (λ (b : BookState). kept_closings_pushed c.self.inside.closed (transition_open_interval b c.args.processor records)) (sym c.self.view_is) in
    let time = c.tick.ensures ∙ ap (λ ts. tick ts c.args.processor) (own at.After-index_mut (standing at.After-self)) in
    let waits = map-set (option_map closing_awaits_kind) c.self.inside.awaits.items c.args.processor c.awaits.result
    ∙ ap (λ w. slice_set (map (option_map closing_awaits_kind) c.self.inside.awaits.items) c.args.processor w)
    (c.awaits.ensures ∙ ap awaited_next (sym c.kind-kind.ensures)) in
    record {
      ok = idle_call_closed_is (book_invariant_state c.self.inside) c.args.processor c.kind-kind.result c.args.block.now records _ (record {
        journal = log;
        closed = closed;
        times = ap (λ t. slice_set c.self.inside.times.items c.args.processor t) time;
        awaits = waits;
        others = refl;
      }) ∙ ap (λ (b : BookState). transition_closed_by (transition_handed_in b c.args.block.now) c.args.processor c.kind-kind.result records) c.self.view_is
          ∙ ap (λ k. transition_closed_by (transition_handed_in c.args.self.now c.args.block.now) c.args.processor k records) c.kind-kind.ensures;
      err = search rules;
      full = search rules;
      only = search rules;
    }

pub append-requires-clause-limit : goal.append-requires-clause-limit
append-requires-clause-limit c = grind (arith, elements)

pub invariant_of-self-2 : goal.invariant_of-self-2
invariant_of-self-2 c = grind (arith, elements)
