-- Calls that close an interval, and what they wait for, as kinds of events.
use Rattle.journal.specs.declared.closing_and_awaited.Awaited.{Awaited}
use Rattle.journal.specs.declared.closing_and_awaited.Awaited.TheVariants.{Grant, Departure, Signal}
use Rattle.journal.specs.declared.closing_and_awaited.Closing.{Closing}
use Rattle.journal.specs.declared.closing_and_awaited.Closing.TheVariants.{Ask, Release, Arrive, Set, Watch}
use Rattle.journal.specs.declared.event.Kind.{Kind}
use Rattle.journal.specs.declared.event.Kind.TheVariants as kind

-- the kind of the call's event
abbrev pub closing_kind : Closing → Kind
closing_kind (Ask l) = kind.Ask l
closing_kind (Release l) = kind.Release l
closing_kind Arrive = kind.Arrive
closing_kind (Set f) = kind.Set f
closing_kind (Watch f) = kind.Watch f

-- the kind of the event that ends the wait
abbrev pub closing_awaits_kind : Awaited → Kind
closing_awaits_kind (Grant l) = kind.Acquire l
closing_awaits_kind Departure = kind.Depart
closing_awaits_kind (Signal f) = kind.Await f
