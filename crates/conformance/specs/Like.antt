-- Histories that are the same except for the values that loads answer and that stores store.
use Rattle.std.specs.Prelude.{◌≡◌, List, map}
use Rattle.journal.specs.declared.event.Event.{Event}
use Rattle.journal.specs.declared.event.Kind.{Kind}
use Rattle.journal.specs.declared.event.Kind.TheVariants.{Load, Store}
use Rattle.journal.specs.DidEvent.{event}

-- the kind, with 0 for the reply of a load and the value of a store
abbrev pub like_without_value : Kind → Kind
like_without_value (Load a v) = Load a 0
like_without_value (Store a v) = Store a 0
like_without_value k = k

-- the same of an event
abbrev pub event_like_without_value : Event → Event
event_like_without_value e = event e.processor (like_without_value e.kind)

-- place by place the same event except for its value
abbrev pub SameButValues : List Event → List Event → Type 0
SameButValues h g = map event_like_without_value h ≡ map event_like_without_value g
