use Rattle.std.proofs.Common.{◌≡◌, ℕ, ◌<◌, List, Some, length, slice_get, slice_index_or, subst, sym, refl, ◌∙◌, arith}
use Rattle.std.proofs.lemmas.List.{length-set}
use Rattle.std.proofs.lemmas.Option.{none-some, slice_get-get_or}
use Rattle.journal.specs.declared.event.Event.{Event}
use Rattle.journal.specs.declared.event.Kind.TheVariants.{Load}
use Rattle.journal.specs.DidEvent.{event}
use Rattle.journal.specs.Events.{EventAt}
use Rattle.judge.specs.JudgedSizes.{most_judged_processors}
use Rattle.causes.specs.declared.index.Turn.{Turn}
use Rattle.causes.specs.Index.{IsIndexedTurn}
use Rattle.causes.proofs.LookedUpIndex.{AreLookedUpNextTurns, HasLookedUpTurn, looked_up_turns_start, looked_up_turns_next, looked_up_turn_here, looked_up_turn_small}
use Rattle.causes.proofs.Rows.{AreRows, rows_next}
use Rattle.causes.proofs.index.index_turns.Goals as goal

abbrev zero : Turn
zero = record { arrived = 0; departed = 0 }

-- the event at this place
abbrev here : List Event → ℕ → Event
here events place = slice_index_or events place (event 0 (Load 0 0))

-- the turn that is next for its processor
own : (events : List Event) (place : ℕ) (next : List Turn) → place < length events → length next ≡ most_judged_processors
    → (here events place).processor < most_judged_processors → AreLookedUpNextTurns events place next
    → IsIndexedTurn events place (here events place).processor (slice_index_or next (here events place).processor zero)
own events place next lt long low are =
    are (here events place).processor (slice_index_or next (here events place).processor zero)
    (slice_get-get_or next (here events place).processor zero (omega arith))

pub loop-place-init : goal.loop-place-init
loop-place-init c = record {
  next_long = refl;
  next = looked_up_turns_start c.args.events.now zero refl refl;
  long = c.in_ok-turns.ensures.len;
  each = λ i t to e at.
      absurd (none-some t (subst (λ (items : List Turn). slice_get items i ≡ Some t) c.in_ok-turns.ensures.items to));
}

pub offset_bounds-next-event : goal.offset_bounds-next-event
offset_bounds-next-event c =
    let events = c.args.events.now in
    let at = slice_get-get_or events c.loop-place.place (event 0 (Load 0 0)) c.loop-place-test.true in
    let low = c.requires.processors c.loop-place.place (here events c.loop-place.place) at in
    omega arith

pub bounds-next-event : goal.bounds-next-event
bounds-next-event c =
    let events = c.args.events.now in
    let at = slice_get-get_or events c.loop-place.place (event 0 (Load 0 0)) c.loop-place-test.true in
    c.requires.processors c.loop-place.place (here events c.loop-place.place) at

pub index_turn_after-requires-clause-arrived : goal.index_turn_after-requires-clause-arrived
index_turn_after-requires-clause-arrived c =
    let events = c.args.events.now in
    let place = c.loop-place.place in
    let lt = c.loop-place-test.true in
    let top = c.loop-place.auto.place-end in
    let few = c.requires.few in
    let at = slice_get-get_or events place (event 0 (Load 0 0)) (omega arith) in
    let low = c.requires.processors place (here events place) at in
    let mine = own events place c.loop-place.next (omega arith) c.loop-place.invariant.next_long low c.loop-place.invariant.next in
    (looked_up_turn_small events place (here events place).processor _ (omega arith) few mine).0

pub index_turn_after-requires-clause-departed : goal.index_turn_after-requires-clause-departed
index_turn_after-requires-clause-departed c =
    let events = c.args.events.now in
    let place = c.loop-place.place in
    let lt = c.loop-place-test.true in
    let top = c.loop-place.auto.place-end in
    let few = c.requires.few in
    let at = slice_get-get_or events place (event 0 (Load 0 0)) (omega arith) in
    let low = c.requires.processors place (here events place) at in
    let mine = own events place c.loop-place.next (omega arith) c.loop-place.invariant.next_long low c.loop-place.invariant.next in
    (looked_up_turn_small events place (here events place).processor _ (omega arith) few mine).1

pub offset_bounds-next-event-in-loop-place : goal.offset_bounds-next-event-in-loop-place
offset_bounds-next-event-in-loop-place c =
    let events = c.args.events.now in
    let at = slice_get-get_or events c.loop-place.place (event 0 (Load 0 0)) c.loop-place-test.true in
    let low = c.requires.processors c.loop-place.place (here events c.loop-place.place) at in
    omega arith

pub bounds-next-event-in-loop-place : goal.bounds-next-event-in-loop-place
bounds-next-event-in-loop-place c =
    let events = c.args.events.now in
    let at = slice_get-get_or events c.loop-place.place (event 0 (Load 0 0)) c.loop-place-test.true in
    c.requires.processors c.loop-place.place (here events c.loop-place.place) at

pub loop-place-preserved : goal.loop-place-preserved
loop-place-preserved c =
    let events = c.args.events.now in
    let place = c.loop-place.place in
    let e = here events place in
    let lt = c.loop-place-test.true in
    let old = c.loop-place.invariant in
    let turns = c.loop-place.turns in
    let at = slice_get-get_or events place (event 0 (Load 0 0)) lt in
    let low = c.requires.processors place e at in
    let mine = own events place c.loop-place.next lt old.next_long low old.next in
    let turn = slice_index_or c.loop-place.next e.processor zero in
    let has : HasLookedUpTurn events place e turn = record { at = at; turn = mine } in
    let counted = λ (i : ℕ) (t : Turn). (f : Event) → EventAt events i f → IsIndexedTurn events i f.processor t in
    let long : length turns.items ≡ place = omega (arith, turns.ok.0, old.long) in
    record {
      next_long = length-set c.loop-place.next e.processor _ ∙ old.next_long;
      next =
          looked_up_turns_next c.loop-place.next c.index_turn_after.result has c.index_turn_after.ensures.arrived
          c.index_turn_after.ensures.departed old.next;
      long = (let len = c.in_ok-push.ensures.len in let was = old.long in omega arith);
      each =
          subst (AreRows counted) (sym c.in_ok-push.ensures.items)
          (rows_next counted turns.items place turn long old.each (looked_up_turn_here has));
    }

pub returns : goal.returns
returns c =
    let over = c.loop-place-test.false in
    let top = c.loop-place.auto.place-end in
    let old = c.loop-place.invariant in
    record { long = omega (arith, c.loop-place.turns.ok.0, old.long); each = λ i e t at to. old.each i t to e at }
