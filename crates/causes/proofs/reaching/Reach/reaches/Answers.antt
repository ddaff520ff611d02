use Rattle.std.proofs.Common.{ℕ, List, slice_index_or, refl}
use Rattle.std.proofs.lemmas.Bool.{false≢true, le-leb, leb-true}
use Rattle.std.proofs.lemmas.Option.{slice_get-get_or}
use Rattle.journal.specs.declared.event.Event.{Event}
use Rattle.journal.specs.declared.event.Kind.TheVariants.{Load}
use Rattle.journal.specs.DidEvent.{event}
use Rattle.journal.proofs.Order.EventPlacesAndCounts.{event_place_does}
use Rattle.causes.proofs.ReachedPaths.{reached_path_from}
use Rattle.causes.proofs.reaching.Reach.reaches.Goals as goal

-- the event at this place
abbrev here : List Event → ℕ → Event
here events place = slice_index_or events place (event 0 (Load 0 0))

pub returns-in-Some : goal.returns-in-Some
returns-in-Some c =
    let events = c.args.events.now in
    let k = c.args.place in
    let m = c.in-Some.first in
    let e = here events k in
    let does = event_place_does events k e.processor e (slice_get-get_or events k (event 0 (Load 0 0)) c.requires.place) refl in
    let both = reached_path_from events e.processor c.args.from m k e.kind c.in-Some.ensures does in
    ((λ is. both.0 (leb-true m k is)), λ up. le-leb m k (both.1 up))

pub returns-in-None : goal.returns-in-None
returns-in-None c =
    let events = c.args.events.now in
    let k = c.args.place in
    let e = here events k in
    let does = event_place_does events k e.processor e (slice_get-get_or events k (event 0 (Load 0 0)) c.requires.place) refl in
    ((λ is. absurd (false≢true is)), λ up. absurd (c.in-None.ensures k e.kind does up))
