use Rattle.std.proofs.Common.{◌≡◌, ℕ, ◌<◌, List, Option, Some, length, slice_index_or, subst, sym, refl, ap, ◌∙◌, arith}
use Rattle.std.proofs.lemmas.Bool.{false≢true}
use Rattle.std.proofs.lemmas.Option.{same_Some, slice_get-get_or}
use Rattle.base.specs.InOrderOnce.{Has}
use Rattle.journal.specs.declared.event.Event.{Event}
use Rattle.journal.specs.declared.event.Kind.TheVariants.{Load}
use Rattle.journal.specs.DidEvent.{event}
use Rattle.journal.specs.Events.{EventAt}
use Rattle.journal.proofs.Order.EventPlacesAndCounts.{event_place_same}
use Rattle.judge.specs.Sources.Latest.{AreLatest}
use Rattle.causes.specs.declared.origin.WordOrigin.{WordOrigin}
use Rattle.causes.specs.Origins.{IsOriginOneOf}
use Rattle.causes.proofs.CauseSources.{cause_source_place_within}
use Rattle.causes.proofs.source.source_origin_among.Goals as goal

-- the event at this place
abbrev here : List Event → ℕ → Event
here events place = slice_index_or events place (event 0 (Load 0 0))

-- the store of an origin is the place that is meant
store_is : (j : List Event) (places : List ℕ) (v i : ℕ) (o : Option WordOrigin) (x : WordOrigin) → o ≡ Some x
    → IsOriginOneOf j places v o i → x.store ≡ i
store_is j places v i o x is y =
    ap (λ (z : WordOrigin). z.store) (same_Some x y.origin_is (sym is ∙ y.is)) ∙ y.store

within : (j : List Event) (places : List ℕ) (i : ℕ) → (k : ℕ) × (a : ℕ) × AreLatest j k a places → Has places i
    → i < length j
within j places i are at = cause_source_place_within j are.0 are.1 at.0 i places are.2 at.1

pub returns-in_default : goal.returns-in_default
returns-in_default c = λ i y. c.in_default.not-Some y.origin_is y.is

pub returns-then-not-has_source_place : goal.returns-then-not-has_source_place
returns-then-not-has_source_place c = λ i y.
    let same = store_is c.args.events.now c.args.places.now c.args.value i c.args.origin c.in-Some.origin c.in-Some.is y in
    false≢true (sym c.if-not-has_source_place.true
    ∙ c.has_source_place.ensures.1 (subst (Has c.args.places.now) (sym same) y.among))

pub offset_bounds-events-origin : goal.offset_bounds-events-origin
offset_bounds-events-origin c =
    let lt =
    within c.args.events.now c.args.places.now c.in-Some.origin.store c.requires.latest
    (c.has_source_place.ensures.0 c.if-not-has_source_place.false) in
    omega arith

pub bounds-events-origin : goal.bounds-events-origin
bounds-events-origin c =
    within c.args.events.now c.args.places.now c.in-Some.origin.store c.requires.latest
    (c.has_source_place.ensures.0 c.if-not-has_source_place.false)

pub returns-then-not-is_source_of_value : goal.returns-then-not-is_source_of_value
returns-then-not-is_source_of_value c = λ i y.
    let events = c.args.events.now in
    let same = store_is events c.args.places.now c.args.value i c.args.origin c.in-Some.origin c.in-Some.is y in
    let lt =
    within events c.args.places.now c.in-Some.origin.store c.requires.latest
    (c.has_source_place.ensures.0 c.if-not-has_source_place.false) in
    let at = slice_get-get_or events c.in-Some.origin.store (event 0 (Load 0 0)) lt in
    let stores = y.stores in
    let one = event_place_same events c.in-Some.origin.store (here events c.in-Some.origin.store) stores.0 at
    (subst (λ n. EventAt events n stores.0) (sym same) stores.1) in
    false≢true (sym c.if-not-is_source_of_value.true
    ∙ c.is_source_of_value.ensures.1 (stores.2.0, ap (λ (e : Event). e.kind) one ∙ stores.2.1))

pub returns : goal.returns
returns c =
    let events = c.args.events.now in
    let has = c.has_source_place.ensures.0 c.if-not-has_source_place.false in
    let lt = within events c.args.places.now c.in-Some.origin.store c.requires.latest has in
    record {
      origin_is = c.in-Some.origin;
      is = c.in-Some.is;
      store = refl;
      among = has;
      stores = (
        here events c.in-Some.origin.store,
        slice_get-get_or events c.in-Some.origin.store (event 0 (Load 0 0)) lt,
        c.is_source_of_value.ensures.0 c.if-not-is_source_of_value.false,
      );
    }
