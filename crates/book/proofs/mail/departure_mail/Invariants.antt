use Rattle.std.proofs.Common.{◌≡◌, map, take, slice_set}
use Rattle.interval.specs.KeptClosings.{kept_closings_pushed}
use Rattle.transit.specs.Letters.{letter}
use Rattle.book.specs.Transitions.{transition_departure_to}
use Rattle.book.proofs.mail.departure_mail.Given as goal

abbrev pub invariant-loop-q : goal.invariant-loop-q
invariant-loop-q l =
    map letter l.departures.items
    ≡ map (transition_departure_to (kept_closings_pushed l.closed l.interval) l.time) (take l.q (slice_set l.times l.interval.owner l.own))
