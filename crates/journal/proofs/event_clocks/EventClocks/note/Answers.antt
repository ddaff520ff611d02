use Rattle.std.proofs.Common.{◌≡◌, ℕ, inl, inr, false, ◌+◌, ◌<◌, ◌≤◌, ◌^◌, length, take, List, [], ◌∷◌, ◌++◌, slice_index_or, vec_len, subst, sym, refl, ap, ◌∙◌, arith}
use Rattle.std.proofs.lemmas.Option.{slice_get-get_or}
use Rattle.std.proofs.lemmas.List.{length-take-le}
use Rattle.std.proofs.lemmas.Result.{on_ok_weaker}
use Rattle.std.proofs.lemmas.Grind.{elements}
use Rattle.base.specs.Limits.{most_held, most_processors}
use Rattle.journal.specs.declared.event.Event.{Event}
use Rattle.journal.specs.declared.event.Kind.{Kind}
use Rattle.journal.specs.declared.event.Kind.TheVariants.{Load, Ask, Acquire, Release, Arrive, Depart, Set, Watch, Await}
use Rattle.journal.specs.declared.event_clocks.EventClocks.{EventClocks}
use Rattle.journal.specs.DidEvent.{event}
use Rattle.journal.specs.EventsInRange.{EventProcessorsInRange}
use Rattle.journal.specs.Events.{event_takes, event_closes}
use Rattle.journal.specs.ClockEntry.{entry}
use Rattle.journal.specs.Clocks.{AreClocks}
use Rattle.journal.proofs.Passes.NextClocks.{StepsToNextClocks, NextClocksLetGo, next_clocks_plain, next_clocks_closed, next_clocks_taken, next_clocks_arrived, next_clocks_departed, next_clocks_front, next_clock_own_room, next_clocks_let_go}
use Rattle.journal.proofs.event_clocks.EventClocks.note.Goals as goal

-- the event at this place
abbrev here : List Event → ℕ → Event
here events place = slice_index_or events place (event 0 (Load 0 0))

present : (events : List Event) (place n : ℕ) → place < length events → EventProcessorsInRange n events
    → (here events place).processor < n
present events place n lt range =
    range place (here events place) (slice_get-get_or events place (event 0 (Load 0 0)) lt)

within : (events : List Event) (place : ℕ) (c : EventClocks) → place < length events → EventProcessorsInRange c.present events
    → AreClocks (take place events) c → (here events place).processor < 16
within events place c lt range a =
    let h = present events place c.present lt range in
    let few = a.few in
    omega arith

room : (events : List Event) (place : ℕ) (c : EventClocks) → place < length events
    → length events ≤ most_held + most_processors → EventProcessorsInRange c.present events
    → AreClocks (take place events) c
    → entry c.processors.items (here events place).processor (here events place).processor < 2 ^ 22
room events place c lt few range a =
    let long = length-take-le place events (omega arith) in
    let short : length (take place events) < 2 ^ 22 = omega arith in
    next_clock_own_room (take place events) c (here events place).processor (present events place c.present lt range) short a

-- the event's processor is present, and these have as many timestamps
steps : (events : List Event) (place : ℕ) (c d : EventClocks) → place < length events → EventProcessorsInRange c.present events
    → AreClocks (take place events) c → vec_len d.processors ≡ vec_len c.processors
    → StepsToNextClocks (take place events) c d (here events place).processor
steps events place c d lt range a long =
    record { present = present events place c.present lt range; so_far = a; long = long }

-- the timestamps after the event are those of the front with it
next : (events : List Event) (place : ℕ) (k : Kind) (d : EventClocks) → place < length events
    → (here events place).kind ≡ k → AreClocks (take place events ++ event (here events place).processor k ∷ []) d
    → AreClocks (take (place + 1) events) d
next events place k d lt is a =
    let e = here events place in
    let front = next_clocks_front events place e (slice_get-get_or events place (event 0 (Load 0 0)) lt) in
    let same = ap (λ x. take place events ++ event e.processor x ∷ []) is in
    subst (λ xs. AreClocks xs d) (sym (front ∙ same)) a

pub close-requires-clause-room : goal.close-requires-clause-room
close-requires-clause-room c =
    room c.args.events.now c.args.place c.args.self.now c.requires.place c.requires.few c.requires.processors
    c.requires.so_far

pub take-requires : goal.take-requires
take-requires c =
    let lt =
    within c.args.events.now c.args.place c.args.self.now c.requires.place c.requires.processors c.requires.so_far in
    let long = c.requires.so_far.long in
    omega arith

pub take-requires-in-Await : goal.take-requires-in-Await
take-requires-in-Await c =
    let lt =
    within c.args.events.now c.args.place c.args.self.now c.requires.place c.requires.processors c.requires.so_far in
    let long = c.requires.so_far.long in
    omega arith

pub give_event_clock-requires-clause-processor : goal.give_event_clock-requires-clause-processor
give_event_clock-requires-clause-processor c =
    within c.args.events.now c.args.place c.args.self.now c.requires.place c.requires.processors c.requires.so_far

pub give_event_clock-requires-clause-room : goal.give_event_clock-requires-clause-room
give_event_clock-requires-clause-room c =
    room c.args.events.now c.args.place c.args.self.now c.requires.place c.requires.few c.requires.processors
    c.requires.so_far

pub give_event_clock-requires-in-Set-clause-processor : goal.give_event_clock-requires-in-Set-clause-processor
give_event_clock-requires-in-Set-clause-processor c =
    within c.args.events.now c.args.place c.args.self.now c.requires.place c.requires.processors c.requires.so_far

pub give_event_clock-requires-in-Set-clause-room : goal.give_event_clock-requires-in-Set-clause-room
give_event_clock-requires-in-Set-clause-room c =
    room c.args.events.now c.args.place c.args.self.now c.requires.place c.requires.few c.requires.processors
    c.requires.so_far

pub arrive-requires-clause-processor : goal.arrive-requires-clause-processor
arrive-requires-clause-processor c =
    within c.args.events.now c.args.place c.args.self.now c.requires.place c.requires.processors c.requires.so_far

pub arrive-requires-clause-room : goal.arrive-requires-clause-room
arrive-requires-clause-room c =
    room c.args.events.now c.args.place c.args.self.now c.requires.place c.requires.few c.requires.processors
    c.requires.so_far

pub depart-requires-clause-processor : goal.depart-requires-clause-processor
depart-requires-clause-processor c =
    within c.args.events.now c.args.place c.args.self.now c.requires.place c.requires.processors c.requires.so_far

pub depart-requires-clause-left : goal.depart-requires-clause-left
depart-requires-clause-left c =
    c.requires.so_far.left (here c.args.events.now c.args.place).processor
    (present c.args.events.now c.args.place c.args.self.now.present c.requires.place c.requires.processors)

pub returns-in-Load-clause-clocks : goal.returns-in-Load-clause-clocks
returns-in-Load-clause-clocks c =
    let events = c.args.events.now in
    let e = here events c.args.place in
    let plain : (event_takes e.kind ≡ false) × (event_closes e.kind ≡ false) = elim c.in-Load.is [
      | inl load ↦ (ap event_takes load.2, ap event_closes load.2)
      | inr rest ↦ elim rest [
        | inl store ↦ (ap event_takes store.2, ap event_closes store.2)
        | inr fetch ↦ (ap event_takes fetch.4, ap event_closes fetch.4)
      ]
    ] in
    next events c.args.place e.kind c.args.self.now c.requires.place refl
    (next_clocks_plain (take c.args.place events) e c.args.self.now plain.0 plain.1 c.requires.so_far)

pub returns-in-Ask-clause-clocks : goal.returns-in-Ask-clause-clocks
returns-in-Ask-clause-clocks c =
    let events = c.args.events.now in
    let place = c.args.place in
    let self = c.args.self.now in
    let d : EventClocks = record self { processors = c.close.new.processors } in
    let s = steps events place self d c.requires.place c.requires.processors c.requires.so_far c.close.ensures.long in
    elim c.in-Ask.is [
      | inl ask ↦ next events place (Ask ask.0) d c.requires.place ask.1
          (next_clocks_closed (Ask ask.0) refl refl s refl c.close.ensures.closed (refl, refl, refl))
      | inr watch ↦ next events place (Watch watch.0) d c.requires.place watch.1
          (next_clocks_closed (Watch watch.0) refl refl s refl c.close.ensures.closed (refl, refl, refl))
    ]

pub returns-in-Acquire-clause-clocks : goal.returns-in-Acquire-clause-clocks
returns-in-Acquire-clause-clocks c =
    let events = c.args.events.now in
    let place = c.args.place in
    let self = c.args.self.now in
    let d : EventClocks = record self { processors = c.take.new.processors } in
    let s = steps events place self d c.requires.place c.requires.processors c.requires.so_far c.take.ensures.long in
    next events place (Acquire c.in-Acquire.lock) d c.requires.place c.in-Acquire.is
    (next_clocks_taken (Acquire c.in-Acquire.lock) refl refl s refl c.take.ensures.joined (refl, refl, refl))

pub returns-in-Await-clause-clocks : goal.returns-in-Await-clause-clocks
returns-in-Await-clause-clocks c =
    let events = c.args.events.now in
    let place = c.args.place in
    let self = c.args.self.now in
    let call = c.take-in-Await in
    let d : EventClocks = record self { processors = call.new.processors } in
    let s = steps events place self d c.requires.place c.requires.processors c.requires.so_far call.ensures.long in
    next events place (Await c.in-Await.flag) d c.requires.place c.in-Await.is
    (next_clocks_taken (Await c.in-Await.flag) refl refl s refl call.ensures.joined (refl, refl, refl))

pub returns-in-Release-clause-clocks : goal.returns-in-Release-clause-clocks
returns-in-Release-clause-clocks c =
    let events = c.args.events.now in
    let place = c.args.place in
    let self = c.args.self.now in
    let k = Release c.in-Release.lock in
    let call = c.give_event_clock in
    let d : EventClocks = record self { processors = call.new.processors; locks = call.new.kept } in
    let s = steps events place self d c.requires.place c.requires.processors c.requires.so_far call.ensures.long in
    on_ok_weaker call.result
    (λ joined. next events place k d c.requires.place c.in-Release.is
    (next_clocks_closed k refl refl s refl call.ensures.closed (joined, refl, refl)))
    call.ensures.joined

pub returns-in-Set-clause-clocks : goal.returns-in-Set-clause-clocks
returns-in-Set-clause-clocks c =
    let events = c.args.events.now in
    let place = c.args.place in
    let self = c.args.self.now in
    let k = Set c.in-Set.flag in
    let call = c.give_event_clock-in-Set in
    let d : EventClocks = record self { processors = call.new.processors; flags = call.new.kept } in
    let s = steps events place self d c.requires.place c.requires.processors c.requires.so_far call.ensures.long in
    on_ok_weaker call.result
    (λ joined. next events place k d c.requires.place c.in-Set.is
    (next_clocks_closed k refl refl s refl call.ensures.closed (refl, joined, refl)))
    call.ensures.joined

pub returns-in-Arrive-clause-clocks : goal.returns-in-Arrive-clause-clocks
returns-in-Arrive-clause-clocks c =
    let events = c.args.events.now in
    let place = c.args.place in
    let d = c.arrive.new.self in
    let after = c.arrive.ensures in
    let s =
    steps events place c.args.self.now d c.requires.place c.requires.processors c.requires.so_far after.long in
    on_ok_weaker c.arrive.result
    (λ arrived. next events place Arrive d c.requires.place c.in-Arrive.is
    (next_clocks_arrived s after.rest after.closed arrived))
    after.arrived

pub returns-in-Depart-clause-clocks : goal.returns-in-Depart-clause-clocks
returns-in-Depart-clause-clocks c =
    let events = c.args.events.now in
    let place = c.args.place in
    let after = c.depart.ensures in
    let s =
    steps events place c.args.self.now c.depart.new.self c.requires.place c.requires.processors c.requires.so_far
    after.long in
    let f = c.let_go.ensures in
    let go : NextClocksLetGo c.depart.new.self c.let_go.new.self = record {
      processors = f.processors;
      locks = f.locks;
      flags = f.flags;
      arrivals = f.arrivals;
      departures = f.departures;
      present = f.present;
      left = f.left;
      episodes = f.episodes;
    } in
    next events place Depart c.let_go.new.self c.requires.place c.in-Depart.is
    (next_clocks_let_go (next_clocks_departed s after.rest after.joined after.departures) go)

pub close-requires-clause-processor : goal.close-requires-clause-processor
close-requires-clause-processor c = grind (arith, elements)

pub let_go-requires-clause-some : goal.let_go-requires-clause-some
let_go-requires-clause-some c = grind (arith, elements)
