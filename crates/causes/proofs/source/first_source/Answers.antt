use Rattle.std.proofs.Common.{ℕ, inl, inr, List, length, slice_index_or, sym, refl, ap, ◌∙◌, arith}
use Rattle.std.proofs.lemmas.Bool.{eq-eqb, eqb-true, false≢true}
use Rattle.std.proofs.lemmas.Option.{slice_get-get_or}
use Rattle.journal.specs.declared.event.Event.{Event}
use Rattle.journal.specs.declared.event.Kind.TheVariants.{Load}
use Rattle.journal.specs.DidEvent.{event}
use Rattle.journal.proofs.Order.EventPlacesAndCounts.{event_place_same}
use Rattle.causes.proofs.CauseSources.{cause_source_found, cause_source_none_next, cause_source_is_nothing, cause_source_place_within, cause_source_unexplained}
use Rattle.causes.proofs.source.first_source.Goals as goal

-- the event at this place
abbrev here : List Event → ℕ → Event
here events place = slice_index_or events place (event 0 (Load 0 0))

pub offset_bounds-events-place : goal.offset_bounds-events-place
offset_bounds-events-place c =
    let places = c.args.places.now in
    let n = c.loop-place.place-index in
    let at = slice_get-get_or places n 0 c.loop-place-test.true in
    let are = c.requires.latest in
    let within = cause_source_place_within c.args.events.now are.0 are.1 n (slice_index_or places n 0) places are.2 at in
    omega arith

pub bounds-events-place : goal.bounds-events-place
bounds-events-place c =
    let places = c.args.places.now in
    let n = c.loop-place.place-index in
    let at = slice_get-get_or places n 0 c.loop-place-test.true in
    let are = c.requires.latest in
    cause_source_place_within c.args.events.now are.0 are.1 n (slice_index_or places n 0) places are.2 at

pub returns-then-is_source_of_value : goal.returns-then-is_source_of_value
returns-then-is_source_of_value c = λ k a are.
    let events = c.args.events.now in
    let places = c.args.places.now in
    let n = c.loop-place.place-index in
    let i = slice_index_or places n 0 in
    let at = slice_get-get_or places n 0 c.loop-place-test.true in
    let within = cause_source_place_within events k a n i places are at in
    let there = slice_get-get_or events i (event 0 (Load 0 0)) within in
    let stores = c.if-is_source_of_value.ensures.0 refl in
    cause_source_found events k a c.args.value i places are (n, at) (here events i, there, stores)

pub loop-place-preserved : goal.loop-place-preserved
loop-place-preserved c =
    let events = c.args.events.now in
    let places = c.args.places.now in
    let n = c.loop-place.place-index in
    let i = slice_index_or places n 0 in
    let at = slice_get-get_or places n 0 c.loop-place-test.true in
    let are = c.requires.latest in
    let within = cause_source_place_within events are.0 are.1 n i places are.2 at in
    let there = slice_get-get_or events i (event 0 (Load 0 0)) within in
    cause_source_none_next events places n c.args.value i at (λ stores.
    (let same = event_place_same events i stores.0 (here events i) stores.1 there in
    false≢true (c.if-is_source_of_value.ensures.1 (stores.2.0, sym (ap (λ (e : Event). e.kind) same) ∙ stores.2.1))))
    c.loop-place.invariant

pub returns-then-value-eq0 : goal.returns-then-value-eq0
returns-then-value-eq0 c = λ k a are.
    let places = c.args.places.now in
    (c.if-value-eq0.true, cause_source_is_nothing c.args.events.now k a places are (eqb-true (length places) 0 (sym c.if-is_empty.ensures)))

pub returns-else-is_empty : goal.returns-else-is_empty
returns-else-is_empty c = λ k a are.
    let places = c.args.places.now in
    cause_source_unexplained c.args.events.now k a c.args.value places are
    (λ m i e lt. c.loop-place.invariant m i e (omega arith))
    (λ empty. elim c.else-is_empty.either [
      | inl x ↦ x.1
      | inr none ↦ absurd (false≢true (sym none ∙ c.is_empty.ensures ∙ eq-eqb (length places) 0 empty))
    ])
