-- What an event must name for a journal to take it.
use Rattle.std.specs.Prelude.{ℕ, ◌<◌, List}
use Rattle.journal.specs.declared.event.Event.{Event}
use Rattle.journal.specs.declared.event.Kind.{Kind}
use Rattle.journal.specs.declared.event.Kind.TheVariants.{Load, Store}
use Rattle.journal.specs.Events.{EventAt}

-- an address that is loaded or stored lies below the number of addresses
abbrev pub EventAddressInRange : ℕ → Kind → Type 0
EventAddressInRange addresses (Load a v) = a < addresses
EventAddressInRange addresses (Store a v) = a < addresses
EventAddressInRange addresses _ = Unit {0}

-- each event's address does
abbrev pub EventAddressesInRange : ℕ → List Event → Type 0
EventAddressesInRange addresses events = (i : ℕ) (e : Event) → EventAt events i e → EventAddressInRange addresses e.kind

-- each event's processor lies below this number
abbrev pub EventProcessorsInRange : ℕ → List Event → Type 0
EventProcessorsInRange processors events = (i : ℕ) (e : Event) → EventAt events i e → e.processor < processors
