-- The numbers of events that are handed in are those of their history.
use Rattle.std.proofs.Common.{ℕ, ◌≡◌, List, map, subst, sym}
use Rattle.std.proofs.lemmas.List.Elements.{All-map}
use Rattle.std.proofs.lemmas.Option.{get_or_from_slice_get, slice_get_within}
use Rattle.journal.specs.declared.event.Event.{Event}
use Rattle.journal.specs.Events.{EventAt}
use Rattle.journal.specs.EventsInRange.{EventAddressesInRange, EventProcessorsInRange}
use Rattle.journal.specs.Sizes.{Sizes, addresses}
use Rattle.judge.specs.Miscounted.{IsEventInSizes}
use Rattle.judge.proofs.HistoryRanges.{history_range_address}
use Rattle.c_library.specs.declared.given.GivenEvent.{GivenEvent}
use Rattle.c_library.specs.Given.{given_event_of}
use Rattle.c_library.specs.GivenHistories.{AreGivenHistoryEvents}

events_within_at : (s : Sizes) (es : List GivenEvent) → AreGivenHistoryEvents s es → (i : ℕ) (e : Event) → EventAt (map given_event_of es) i e
    → IsEventInSizes s e
events_within_at s es all i e at =
    subst (IsEventInSizes s) (get_or_from_slice_get (map given_event_of es) i e e at)
    (All-map (IsEventInSizes s) given_event_of es (λ k d lt. (all k d lt).within) i e (slice_get_within (map given_event_of es) i e at))

-- their processors
pub events_within_processors : (s : Sizes) (es : List GivenEvent) (j : List Event) → j ≡ map given_event_of es → AreGivenHistoryEvents s es
    → EventProcessorsInRange s.processors j
events_within_processors s es j is all =
    subst (EventProcessorsInRange s.processors) (sym is) (λ i e at. (events_within_at s es all i e at).processor)

-- and their addresses
pub events_within_addresses : (s : Sizes) (es : List GivenEvent) (j : List Event) → j ≡ map given_event_of es → AreGivenHistoryEvents s es
    → EventAddressesInRange (addresses s) j
events_within_addresses s es j is all =
    subst (EventAddressesInRange (addresses s)) (sym is)
    (λ i e at. history_range_address s e.kind (events_within_at s es all i e at).kind)
