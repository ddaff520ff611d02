use Rattle.std.proofs.Common.{◌≡◌, map, ◌∙◌, arith, rules}
use Rattle.std.specs.Arc.{arc_value}
use Rattle.journal.specs.declared.event.Kind.TheVariants.{Set}
use Rattle.book.specs.BookInvariant.{book_invariant_state}
use Rattle.book.specs.Transitions.{transition_handed_in, transition_closed_by}
use Rattle.book.proofs.Calling.IdleCalls.{idle_call_interval_open, idle_call_still_open, IsClosedSinceIdleCall, idle_call_closed_since}
use Rattle.book.proofs.Calling.AskAndSetCalls.{IsSetCall, ask_call_still_timed, set_call_read, set_call_is}
use Rattle.book.proofs.book.Book.set.Goals.{After-deref_mut-parts, After-parts, After-index-2}
use Rattle.book.proofs.book.Book.set.Goals as goal

-- the parts hold the book as it is found
same : (c : After-deref_mut-parts) → c.deref_mut-parts.result.now ≡ c.args.self.now
same c = c.deref_mut-parts.ensures.value ∙ c.self.view_is

pub open_interval-interval-requires : goal.open_interval-interval-requires
open_interval-interval-requires c =
    idle_call_interval_open c.deref_mut-parts.result.now c.args.self.now c.args.processor c.args.block.now
    (same (goal.at.open_interval-interval-requires c).After-deref_mut-parts) c.requires.call

pub close-requires-clause-open : goal.close-requires-clause-open
close-requires-clause-open c =
    idle_call_still_open c.deref_mut-parts.result.now c.args.processor c.open_interval-interval.result
    (map arc_value c.args.records.items)
    c.open_interval-interval.ensures

-- the book once the interval is closed
closed : (c : After-parts) → book_invariant_state c.parts.inside
    ≡ transition_closed_by (transition_handed_in c.args.self.now c.args.block.now) c.args.processor (Set c.args.flag)
    (map arc_value c.args.records.items)
closed c =
    let is : IsClosedSinceIdleCall c.deref_mut-parts.result.now c.args.self.now (book_invariant_state c.parts.inside) c.args.block.now
    c.args.processor (Set c.args.flag) (map arc_value c.args.records.items) = record {
      i = c.open_interval-interval.result;
      same = c.deref_mut-parts.ensures.value ∙ c.self.view_is;
      opened = c.open_interval-interval.ensures;
      closed = c.parts.view_is ∙ c.in_ok-close.ensures.ok;
    } in
    idle_call_closed_since is

pub index-requires-2 : goal.index-requires-2
index-requires-2 c =
    let lt = ask_call_still_timed c.args.self.now (book_invariant_state c.parts.inside) c.args.processor (Set c.args.flag) c.args.block.now
    (map arc_value c.args.records.items) c.requires.call (closed (goal.at.index-requires-2 c).After-parts) in
    omega (arith, lt, c.parts.inside.times.ok.0)

-- the flag and p's timestamp, as they are read
setting : (c : After-index-2) → book_invariant_state c.parts.inside
    ≡ transition_closed_by (transition_handed_in c.args.self.now c.args.block.now) c.args.processor (Set c.args.flag)
    (map arc_value c.args.records.items)
    → IsSetCall c.args.self.now (book_invariant_state c.parts.inside) c.args.processor c.args.flag c.args.block.now
    (map arc_value c.args.records.items) c.index.result.now c.index-2.result.now
setting c is = record {
  may = c.requires.call;
  range = c.requires.flag;
  closed = is;
  flag = c.index.ensures;
  time = c.index-2.ensures;
}

pub protocol_flag_with_set-time-requires : goal.protocol_flag_with_set-time-requires
protocol_flag_with_set-time-requires c =
    let at = goal.at.protocol_flag_with_set-time-requires c in (set_call_read (setting at.After-index-2 (closed at.After-parts))).long

pub returns : goal.returns
returns c =
    let at = goal.at.returns c in
    record {
      ok = set_call_is (setting at.After-index-2 (closed at.After-parts)) c.protocol_flag_with_set-time.result c.protocol_flag_with_set-time.ensures;
      err = search rules;
      full = search rules;
      only = search rules;
    }
