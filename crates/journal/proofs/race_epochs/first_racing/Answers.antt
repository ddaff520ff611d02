use Rattle.std.proofs.Common.{◌≡◌, ℕ, ◌+◌, ◌<◌, inl, inr, length, take, List, slice_index, slice_index_or, ◌==◌, ◌≤◌, ◌&&◌, sym, refl, ap, ◌∙◌, arith}
use borrow.Author.Count.{below_more}
use Rattle.std.proofs.lemmas.Option.{slice_get-get_or, slice_get_within}
use Rattle.std.proofs.lemmas.Bool.{cases_lt}
use Rattle.std.proofs.lemmas.List.{length-take-le}
use Rattle.std.proofs.lemmas.List.Sums.{count_by-le-length}
use Rattle.std.proofs.lemmas.Grind.{elements}
use Rattle.journal.specs.declared.event.Event.{Event}
use Rattle.journal.specs.declared.event.Kind.TheVariants.{Load}
use Rattle.journal.specs.DidEvent.{event}
use Rattle.journal.specs.Events.{EventAt, event_count, event_closes}
use Rattle.journal.specs.EventsInRange.{EventProcessorsInRange}
use Rattle.journal.specs.Races.{Race}
use Rattle.journal.proofs.Passes.ClockZeros.{clock_zeros_at}
use Rattle.journal.proofs.Passes.NextRaces.{next_race_by_time, next_race_events, next_race_count, next_race_cond_and_true, next_race_cond_and_false}
use Rattle.journal.proofs.race_epochs.first_racing.Goals as goal
use Rattle.journal.proofs.race_epochs.first_racing.Goals.{else-is_race_conflict-via-then-is_race_conflict+else-time-earlier, else-is_race_conflict-via-else-is_race_conflict, then-event_kind_closes, else-event_kind_closes}

-- the event at this place
abbrev here : List Event → ℕ → Event
here events place = slice_index_or events place (event 0 (Load 0 0))

-- a place before an event's is one of the list
place_within : (events : List Event) (place i : ℕ) (e : Event) → EventAt events place e → i < place → i < length events
place_within events place i e at lt = (let within = slice_get_within events place e at in omega arith)

-- and the processor of its event is in range
processor_within : (events : List Event) (place i : ℕ) (e : Event) → EventAt events place e → i < place
    → EventProcessorsInRange 16 events → (here events i).processor < 16
processor_within events place i e at lt range =
    range i (here events i) (slice_get-get_or events i (event 0 (Load 0 0)) (place_within events place i e at lt))

-- no count of a journal's front is past its place
count_within : (events : List Event) (i p : ℕ) → i < length events → event_count event_closes (take i events) p ≤ i
count_within events i p lt =
    let all = count_by-le-length (λ (e : Event). (e.processor == p) && event_closes e.kind) (take i events) in
    let long = length-take-le i events (omega arith) in
    omega arith

pub bounds-events-i : goal.bounds-events-i
bounds-events-i c =
    place_within c.args.events.now c.args.place c.loop-i.i c.args.event c.requires.at c.loop-i-test.true

pub bounds-time-earlier : goal.bounds-time-earlier
bounds-time-earlier c =
    processor_within c.args.events.now c.args.place c.loop-i.i c.args.event c.requires.at c.loop-i-test.true
    c.requires.processors

pub bounds-closings-earlier : goal.bounds-closings-earlier
bounds-closings-earlier c =
    processor_within c.args.events.now c.args.place c.loop-i.i c.args.event c.requires.at c.loop-i-test.true
    c.requires.processors

pub tick-requires-clause-processor : goal.tick-requires-clause-processor
tick-requires-clause-processor c =
    processor_within c.args.events.now c.args.place c.loop-i.i c.args.event c.requires.at c.loop-i-test.true
    c.requires.processors

pub tick-requires-clause-room : goal.tick-requires-clause-room
tick-requires-clause-room c =
    let e = here c.args.events.now c.loop-i.i in
    let lt =
    processor_within c.args.events.now c.args.place c.loop-i.i c.args.event c.requires.at c.loop-i-test.true
    c.requires.processors in
    let within =
    place_within c.args.events.now c.args.place c.loop-i.i c.args.event c.requires.at c.loop-i-test.true in
    let count = c.loop-i.invariant.1 e.processor lt in
    let small = count_within c.args.events.now c.loop-i.i e.processor within in
    omega (arith, c.requires.few)

pub loop-i-init : goal.loop-i-init
loop-i-init c = (refl, λ q h. clock_zeros_at 16 q, λ m h. absurd (omega arith))

pub returns-then-time-earlier : goal.returns-then-time-earlier
returns-then-time-earlier c =
    let e = here c.args.events.now c.loop-i.i in
    let lt = c.loop-i-test.true in
    let within = slice_get_within c.args.events.now c.args.place c.args.event c.requires.at in
    let at = slice_get-get_or c.args.events.now c.loop-i.i (event 0 (Load 0 0)) (omega arith) in
    let both = c.if-is_race_conflict.ensures.0 refl in
    let count = c.loop-i.invariant.1 e.processor (c.requires.processors c.loop-i.i e at) in
    let le = c.if-time-earlier.true in (
      (next_race_by_time
          c.requires.at at lt both.0 both.1 c.requires.time).1
          (omega arith),
      λ m r. elim (cases_lt m c.loop-i.i) [ inl below ↦ absurd (c.loop-i.invariant.2 m below r) | inr le_m ↦ le_m ],
    )

pub loop-i-preserved : goal.loop-i-preserved
loop-i-preserved c =
    let e = here c.args.events.now c.loop-i.i in
    let lt = c.loop-i-test.true in
    let within = slice_get_within c.args.events.now c.args.place c.args.event c.requires.at in
    let at = slice_get-get_or c.args.events.now c.loop-i.i (event 0 (Load 0 0)) (omega arith) in
    let count = c.loop-i.invariant.1 e.processor (c.requires.processors c.loop-i.i e at) in
    let next = λ (q : ℕ). next_race_count event_closes c.args.events.now c.loop-i.i q e at in
    let long : length c.if-event_kind_closes.closings ≡ 16 = elim c.if-event_kind_closes.branch [
      | then-event_kind_closes w ↦ ap (λ xs. length xs) w.closings-is ∙ w.tick.array_long
      | else-event_kind_closes w ↦ ap (λ xs. length xs) w.closings-is ∙ c.loop-i.invariant.0
    ] in
    let counts : (q : ℕ) → q < 16
    → slice_index c.if-event_kind_closes.closings q
    ≡ event_count event_closes (take (c.loop-i.i + 1) c.args.events.now) q = λ q h. elim c.if-event_kind_closes.branch [
      | then-event_kind_closes w ↦ (let old = c.loop-i.invariant.1 q h in let step = next q in let one = w.tick.ensures q in
          let is = next_race_cond_and_true (e.processor == q) (event_closes e.kind) (sym c.event_kind_closes.ensures ∙ w.if-event_kind_closes.true)
          in
          let same = ap (λ xs. slice_index xs q) w.closings-is in omega arith)
      | else-event_kind_closes w ↦ (let old = c.loop-i.invariant.1 q h in let step = next q in
          let is = next_race_cond_and_false (e.processor == q) (event_closes e.kind)
          (sym c.event_kind_closes.ensures ∙ w.if-event_kind_closes.false) in
          let same = ap (λ xs. slice_index xs q) w.closings-is in omega arith)
    ] in
    let none : Race c.args.events.now c.loop-i.i c.args.place → ⊥ = elim c.else-is_race_conflict.branch [
      | else-is_race_conflict-via-then-is_race_conflict+else-time-earlier w ↦ (λ r.
          let both = c.is_race_conflict.ensures.0 w.if-is_race_conflict.true in
          let le =
          (next_race_by_time
          c.requires.at at lt both.0 both.1 c.requires.time).0
          r in
          let above = w.if-time-earlier.false in
          omega arith)
      | else-is_race_conflict-via-else-is_race_conflict w ↦ (λ r.
          let conflicts =
          c.is_race_conflict.ensures.1
          (next_race_events c.args.events.now c.args.place c.loop-i.i c.args.event e c.requires.at at r) in
          let isnt = w.if-is_race_conflict.false in
          absurd (cc (conflicts, isnt)))
    ] in
    (long, counts, below_more (λ m. Race c.args.events.now m c.args.place → ⊥) c.loop-i.i c.loop-i.invariant.2 none)

pub returns : goal.returns
returns c = λ m r. (let before = r.before in let over = c.loop-i-test.false in c.loop-i.invariant.2 m (omega arith) r)

pub offset_bounds-closings-earlier : goal.offset_bounds-closings-earlier
offset_bounds-closings-earlier c = grind (arith, elements)

pub offset_bounds-events-i : goal.offset_bounds-events-i
offset_bounds-events-i c = grind (arith, elements)

pub offset_bounds-time-earlier : goal.offset_bounds-time-earlier
offset_bounds-time-earlier c = grind (arith, elements)
