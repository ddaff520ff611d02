-- A history in which locks order nothing.
use Rattle.std.specs.Prelude.{List, map}
use Rattle.journal.specs.declared.event.Event.{Event}
use Rattle.journal.specs.declared.event.Kind.{Kind}
use Rattle.journal.specs.declared.event.Kind.TheVariants.{Fetch, Ask, Acquire, Release}
use Rattle.journal.specs.DidEvent.{event}

-- a lock's event becomes one that orders nothing between processors
abbrev pub unlocked_kind : Kind → Kind
unlocked_kind (Ask l) = Fetch 0 0 0 0
unlocked_kind (Acquire l) = Fetch 0 0 0 0
unlocked_kind (Release l) = Fetch 0 0 0 0
unlocked_kind k = k

abbrev pub unlocked_event : Event → Event
unlocked_event e = event e.processor (unlocked_kind e.kind)

-- the history with each lock's event changed so
abbrev pub unlocked_history : List Event → List Event
unlocked_history j = map unlocked_event j
