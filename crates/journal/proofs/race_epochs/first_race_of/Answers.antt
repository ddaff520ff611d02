use Rattle.std.proofs.Common.{◌<◌, ◌≡◌, ℕ, ◌+◌, ap, inl, inr, take, List, slice_index, slice_index_or, subst, sym, refl, ◌∙◌, arith}
use Rattle.std.proofs.lemmas.Option.{slice_get-get_or, slice_get_within}
use Rattle.std.proofs.lemmas.List.{length-take-le}
use Rattle.std.proofs.lemmas.Bool.{cases_lt}
use Rattle.journal.specs.declared.event.Event.{Event}
use Rattle.journal.specs.declared.event.Kind.TheVariants.{Load}
use Rattle.journal.specs.DidEvent.{event}
use Rattle.journal.specs.Pasts.{InPast}
use Rattle.journal.specs.Times.{IsTimeOf}
use Rattle.journal.specs.Races.{Race}
use Rattle.journal.specs.EventsInRange.{EventAddressInRange, EventProcessorsInRange}
use Rattle.journal.specs.ClockEntry.{entry}
use Rattle.journal.specs.Clocks.{AreClocks}
use Rattle.journal.specs.AccessEpochs.{AreAccessEpochs}
use Rattle.journal.proofs.Times.TimesOfPlaces.{time_of_places_equal}
use Rattle.journal.proofs.Passes.NextClocks.{next_clock_time_small, next_clocks_front, next_clocks_plain}
use Rattle.journal.proofs.Passes.NextRaces.{next_race_access_plain, next_race_no_access, next_race_none_other, next_race_after_other, NextRaceNotesAccess, next_race_accesses, next_race_ordered_here}
use Rattle.journal.proofs.race_epochs.first_race_of.Goals as goal
use Rattle.journal.proofs.race_epochs.first_race_of.Goals.{then-event_kind_is_access+in_default, else-event_kind_is_access+in_ok-note}

-- the event at this place
abbrev here : List Event → ℕ → Event
here events place = slice_index_or events place (event 0 (Load 0 0))

-- no event up to here ends a race
no_race_yet : (events : List Event) (place : ℕ) → ((m n : ℕ) → n < place → ¬ Race events m n)
    → ((i : ℕ) → ¬ Race events i place) → (m n : ℕ) → n < place + 1 → ¬ Race events m n
no_race_yet events place before here_none m n h r = elim (cases_lt n place) [
  | inl below ↦ before m n below r
  | inr le ↦ (let is : n ≡ place = omega arith in here_none m (subst (λ x. Race events m x) is r))
]

pub of-time-requires : goal.of-time-requires
of-time-requires c =
    let at = slice_get-get_or c.args.events.now c.loop-place.place (event 0 (Load 0 0)) (omega arith) in
    let present = c.requires.processors c.loop-place.place (here c.args.events.now c.loop-place.place) at in
    let long = c.loop-place.invariant.0.long in
    omega (arith, c.requires.few_processors)

pub race_at-requires-clause-at : goal.race_at-requires-clause-at
race_at-requires-clause-at c =
    slice_get-get_or c.args.events.now c.loop-place.place (event 0 (Load 0 0)) (omega arith)

pub race_at-requires-clause-last : goal.race_at-requires-clause-last
race_at-requires-clause-last c =
    let at = slice_get-get_or c.args.events.now c.loop-place.place (event 0 (Load 0 0)) (omega arith) in
    subst (λ n. EventAddressInRange n (here c.args.events.now c.loop-place.place).kind)
    (sym c.loop-place.invariant.1.last_long)
    (c.requires.addresses c.loop-place.place (here c.args.events.now c.loop-place.place) at)

pub race_at-requires-clause-loads : goal.race_at-requires-clause-loads
race_at-requires-clause-loads c =
    let at = slice_get-get_or c.args.events.now c.loop-place.place (event 0 (Load 0 0)) (omega arith) in
    subst (λ n. EventAddressInRange n (here c.args.events.now c.loop-place.place).kind)
    (sym c.loop-place.invariant.1.loads_long)
    (c.requires.addresses c.loop-place.place (here c.args.events.now c.loop-place.place) at)

pub race_at-requires-clause-time : goal.race_at-requires-clause-time
race_at-requires-clause-time c =
    let e = here c.args.events.now c.loop-place.place in
    let at = slice_get-get_or c.args.events.now c.loop-place.place (event 0 (Load 0 0)) (omega arith) in
    let present = c.requires.processors c.loop-place.place e at in
    let lt : e.processor < 16 = omega (arith, c.requires.few_processors) in
    time_of_places_equal (take c.loop-place.place c.args.events.now)
    (InPast (take c.loop-place.place c.args.events.now) e.processor)
    (entry c.loop-place.clocks.processors.items e.processor) (slice_index c.of-time.result.now)
    (λ q. sym (c.of-time.ensures q)) (c.loop-place.invariant.0.times e.processor lt)

pub returns-in-Some : goal.returns-in-Some
returns-in-Some c = record {
  race = c.in-Some.ensures.0;
  least_second =
      λ m n r. elim (cases_lt n c.loop-place.place)
      [ inl lt ↦ absurd (c.loop-place.invariant.2 m n lt r) | inr le ↦ le ];
  least_first = λ m r. c.in-Some.ensures.1 m r;
}

pub note-requires-clause-processor : goal.note-requires-clause-processor
note-requires-clause-processor c =
    let at = slice_get-get_or c.args.events.now c.loop-place.place (event 0 (Load 0 0)) (omega arith) in
    let present = c.requires.processors c.loop-place.place (here c.args.events.now c.loop-place.place) at in
    omega (arith, c.requires.few_processors)

pub note-requires-clause-interval : goal.note-requires-clause-interval
note-requires-clause-interval c =
    let e = here c.args.events.now c.loop-place.place in
    let at = slice_get-get_or c.args.events.now c.loop-place.place (event 0 (Load 0 0)) (omega arith) in
    let present = c.requires.processors c.loop-place.place e at in
    let lt : e.processor < 16 = omega (arith, c.requires.few_processors) in
    let small =
    next_clock_time_small (take c.loop-place.place c.args.events.now)
    (InPast (take c.loop-place.place c.args.events.now) e.processor)
    (entry c.loop-place.clocks.processors.items e.processor) e.processor
    (c.loop-place.invariant.0.times e.processor lt) in
    let long = length-take-le c.loop-place.place c.args.events.now (omega arith) in
    let is = c.of-time.ensures e.processor in
    let few = c.requires.few in
    omega arith

pub note-requires-clause-last : goal.note-requires-clause-last
note-requires-clause-last c =
    let at = slice_get-get_or c.args.events.now c.loop-place.place (event 0 (Load 0 0)) (omega arith) in
    subst (λ n. EventAddressInRange n (here c.args.events.now c.loop-place.place).kind)
    (sym c.loop-place.invariant.1.last_long)
    (c.requires.addresses c.loop-place.place (here c.args.events.now c.loop-place.place) at)

pub note-requires-clause-loads : goal.note-requires-clause-loads
note-requires-clause-loads c =
    let at = slice_get-get_or c.args.events.now c.loop-place.place (event 0 (Load 0 0)) (omega arith) in
    subst (λ n. EventAddressInRange n (here c.args.events.now c.loop-place.place).kind)
    (sym c.loop-place.invariant.1.loads_long)
    (c.requires.addresses c.loop-place.place (here c.args.events.now c.loop-place.place) at)

pub loop-place-preserved : goal.loop-place-preserved
loop-place-preserved c =
    let events = c.args.events.now in
    let place = c.loop-place.place in
    let e = here events place in
    let at = slice_get-get_or events place (event 0 (Load 0 0)) (omega arith) in
    let present = c.requires.processors place e at in
    let lt : e.processor < 16 = omega (arith, c.requires.few_processors) in
    let front = take place events in
    let next = next_clocks_front events place e at in
    elim c.if-event_kind_is_access.branch [
      | then-event_kind_is_access+in_default w ↦ (let plain = next_race_access_plain e.kind (sym c.event_kind_is_access.ensures ∙ w.if-event_kind_is_access.true) in
          let clocks = next_clocks_plain front e c.loop-place.clocks plain.0 plain.1 c.loop-place.invariant.0 in
          let t = slice_index w.of-time.result.now in
          let time : IsTimeOf front e.processor t =
          time_of_places_equal front (InPast front e.processor) (entry c.loop-place.clocks.processors.items e.processor) t
          (λ q. sym (w.of-time.ensures q)) (c.loop-place.invariant.0.times e.processor lt) in
          let here_none : (i : ℕ) → Race events i place → ⊥ = w.in_default.ensures in
          let notes : NextRaceNotesAccess front e t c.args.addresses c.loop-place.accesses w.note.new.self = record {
            time = time;
            kept = c.loop-place.invariant.1;
            ordered = next_race_ordered_here events place e t at time here_none;
            last_long = w.note.ensures.last_long;
            loads_long = w.note.ensures.loads_long;
          } in
          let accesses = next_race_accesses notes e.kind refl w.note.ensures.noted in (
            subst (λ x. AreClocks (take (place + 1) events) x) (sym w.clocks-is)
                (subst (λ xs. AreClocks xs c.loop-place.clocks) (sym next) clocks),
            subst (λ x. AreAccessEpochs (take (place + 1) events) c.args.addresses x) (sym w.accesses-is)
                (subst (λ xs. AreAccessEpochs xs c.args.addresses w.note.new.self) (sym next) accesses),
            no_race_yet events place c.loop-place.invariant.2 here_none,
            ap (λ x. x.present) w.clocks-is ∙ c.loop-place.invariant.3,
          ))
      | else-event_kind_is_access+in_ok-note w ↦ (let none = next_race_no_access e.kind (sym c.event_kind_is_access.ensures ∙ w.if-event_kind_is_access.false) in
          let accesses = next_race_after_other front e c.args.addresses c.loop-place.accesses none c.loop-place.invariant.1 in (
            subst (λ x. AreClocks (take (place + 1) events) x) (sym w.clocks-is) w.in_ok-note.ensures.clocks,
            subst (λ x. AreAccessEpochs (take (place + 1) events) c.args.addresses x) (sym w.accesses-is)
                (subst (λ xs. AreAccessEpochs xs c.args.addresses c.loop-place.accesses) (sym next) accesses),
            no_race_yet events place c.loop-place.invariant.2 (next_race_none_other events place e at none),
            ap (λ x. x.present) w.clocks-is ∙ (w.in_ok-note.ensures.present ∙ c.loop-place.invariant.3),
          ))
    ]

pub returns : goal.returns
returns c =
    λ i k r. (let within = slice_get_within c.args.events.now k r.second r.second_at in
    let over = c.loop-place-test.false in c.loop-place.invariant.2 i k (omega arith) r)

pub loop-place-init : goal.loop-place-init
loop-place-init c = (
  c.in_ok-clocks.ensures.clocks,
  c.in_ok-accesses.ensures,
  λ m n h r. absurd (omega arith),
  c.in_ok-clocks.ensures.present,
)

pub bounds-events-place : goal.bounds-events-place
bounds-events-place c = c.loop-place-test.true

pub race_at-requires-clause-few : goal.race_at-requires-clause-few
race_at-requires-clause-few c = c.requires.few

pub race_at-requires-clause-kept : goal.race_at-requires-clause-kept
race_at-requires-clause-kept c =
    subst (λ n. AreAccessEpochs (take c.loop-place.place c.args.events.now) n c.loop-place.accesses)
    (sym c.loop-place.invariant.1.last_long) c.loop-place.invariant.1

pub race_at-requires-clause-processors : goal.race_at-requires-clause-processors
race_at-requires-clause-processors c =
    λ i e at. (let present = c.requires.processors i e at in omega (arith, c.requires.few_processors))

pub note-requires-else-event_kind_is_access-clause-processors : goal.note-requires-else-event_kind_is_access-clause-processors
note-requires-else-event_kind_is_access-clause-processors c =
    subst (λ n. EventProcessorsInRange n c.args.events.now) (sym c.loop-place.invariant.3) c.requires.processors

pub note-requires-else-event_kind_is_access-clause-so_far : goal.note-requires-else-event_kind_is_access-clause-so_far
note-requires-else-event_kind_is_access-clause-so_far c = c.loop-place.invariant.0

pub note-requires-else-event_kind_is_access-clause-place : goal.note-requires-else-event_kind_is_access-clause-place
note-requires-else-event_kind_is_access-clause-place c = c.loop-place-test.true

pub note-requires-else-event_kind_is_access-clause-few : goal.note-requires-else-event_kind_is_access-clause-few
note-requires-else-event_kind_is_access-clause-few c = c.requires.few
