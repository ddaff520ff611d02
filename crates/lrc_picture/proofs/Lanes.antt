-- Where an event's lane is.
use Rattle.std.proofs.Common.{◌<◌, ◌≤◌, ℕ, List, length, slice_index_or, arith}
use Rattle.std.proofs.lemmas.Option.{slice_get-get_or}
use Rattle.journal.specs.declared.event.Event.{Event}
use Rattle.journal.specs.declared.event.Kind.TheVariants.{Load}
use Rattle.journal.specs.DidEvent.{event}
use Rattle.journal.specs.EventsInRange.{EventProcessorsInRange}

-- the event at this place
abbrev pub lane_event_at : List Event → ℕ → Event
lane_event_at events place = slice_index_or events place (event 0 (Load 0 0))

-- it is of one of the lanes
pub lane_within : (lanes : ℕ) (events : List Event) (place : ℕ) → place < length events → EventProcessorsInRange lanes events
    → (lane_event_at events place).processor ≤ lanes
lane_within lanes events place lt range =
    let is = range place (lane_event_at events place) (slice_get-get_or events place (event 0 (Load 0 0)) lt) in
    omega (arith, is)
