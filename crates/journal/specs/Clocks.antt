-- What the race checker's timestamps are by the events so far.
use Rattle.std.specs.Prelude.{ℕ, ◌≡◌, ◌<◌, ◌≤◌, ◌+◌, ◌-◌, ◌==◌, cond, List, slice_index, vec_len}
use Rattle.base.specs.Limits.{most_processors}
use Rattle.journal.specs.declared.event.Event.{Event}
use Rattle.journal.specs.declared.event.Kind.TheVariants.{Release, Set}
use Rattle.journal.specs.declared.event_clocks.EventClocks.{EventClocks}
use Rattle.journal.specs.NumberedClocks.{numbered_clock_at}
use Rattle.journal.specs.Events.{event_count, event_arrives, event_departs}
use Rattle.journal.specs.Pasts.{InPastOfSome}
use Rattle.journal.specs.Times.{IsTimeIn, IsTimeOf}
use Rattle.journal.specs.Brings.{BringsFromKind, BringsFromSomeArrival}
use Rattle.journal.specs.ClockEntry.{entry, ClockEntryJoinedAt}

-- p's arrival has joined its timestamp into what its episode keeps, unless all have departed from that, and is counted
pub record ClocksAfterArrival (c d : EventClocks) (p : ℕ) : Type 0 where
  pub joined : c.gone ≤ slice_index c.arrivals p
      → ClockEntryJoinedAt (entry c.episodes.items) (entry d.episodes.items) (slice_index c.arrivals p - c.gone)
      (entry d.processors.items p)
  pub gone : slice_index c.arrivals p < c.gone → d.episodes.items ≡ c.episodes.items
  pub counted : (q : ℕ) → slice_index d.arrivals q ≡ slice_index c.arrivals q + cond (p == q) 1 0

-- the timestamps of the processors, locks, flags and episodes, and the counts of arrivals and departures, are those
-- of the journal
pub record AreClocks (j : List Event) (c : EventClocks) : Type 0 where
  pub long : vec_len c.processors ≡ most_processors
  pub few : c.present ≤ most_processors
  pub times : (p : ℕ) → p < most_processors → IsTimeOf j p (entry c.processors.items p)
  pub locks : (l : ℕ) → IsTimeIn j (InPastOfSome j (BringsFromKind j (Release l))) (numbered_clock_at c.locks l)
  pub flags : (f : ℕ) → IsTimeIn j (InPastOfSome j (BringsFromKind j (Set f))) (numbered_clock_at c.flags f)
  pub episodes : (n : ℕ) → c.gone ≤ n
      → IsTimeIn j (InPastOfSome j (BringsFromSomeArrival j n)) (entry c.episodes.items (n - c.gone))
  pub left : (p : ℕ) → p < c.present → c.gone ≤ slice_index c.departures p
  pub arrivals : (p : ℕ) → p < most_processors → slice_index c.arrivals p ≡ event_count event_arrives j p
  pub departures : (p : ℕ) → p < most_processors → slice_index c.departures p ≡ event_count event_departs j p
