-- What C is told of a script's schedules.
use Rattle.std.specs.Prelude.{ℕ, ◌-◌, if◌then◌else◌, Option, Some, None, List, length, map, replicate, slice_get, slice_index_or}
use Rattle.std.specs.List.{range_with_len}
use Rattle.journal.specs.declared.event.Event.{Event}
use Rattle.journal.specs.declared.event.Kind.{Kind}
use Rattle.journal.specs.declared.event.Kind.TheVariants.{Load, Store, Fetch, Ask, Acquire, Release, Arrive, Depart, Set, Watch, Await}
use Rattle.explore.specs.declared.outcomes.answer.Explored.{Explored}
use Rattle.explore.specs.declared.outcomes.answer.Hanging.{Hanging}
use Rattle.explore.specs.declared.outcomes.answer.Hanging.TheVariants as hanging
use Rattle.explore.specs.declared.outcomes.answer.Verdict.{Verdict}
use Rattle.explore.specs.declared.outcomes.answer.Verdict.TheVariants as verdict
use Rattle.c_library.specs.declared.told_verdict.TheConstants.{NONE}
use Rattle.c_library.specs.declared.told_exploration.ToldAccess.{ToldAccess}
use Rattle.c_library.specs.declared.told_exploration.ToldConflict.{ToldConflict}
use Rattle.c_library.specs.declared.told_exploration.ToldExploration.{ToldExploration}
use Rattle.c_library.specs.declared.told_exploration.ToldWait.{ToldWait}

-- a kind's number: its place among those that C hands in (`given_kinds_of`)
abbrev pub told_exploration_kind : Kind → ℕ
told_exploration_kind (Load a v) = 0
told_exploration_kind (Store a v) = 1
told_exploration_kind (Fetch writers page records words) = 2
told_exploration_kind (Ask l) = 3
told_exploration_kind (Acquire l) = 4
told_exploration_kind (Release l) = 5
told_exploration_kind Arrive = 6
told_exploration_kind Depart = 7
told_exploration_kind (Set f) = 8
told_exploration_kind (Watch f) = 9
told_exploration_kind (Await f) = 10

-- the address, page, lock or flag that it names
abbrev pub told_exploration_number : Kind → ℕ
told_exploration_number (Load a v) = a
told_exploration_number (Store a v) = a
told_exploration_number (Fetch writers page records words) = page
told_exploration_number (Ask l) = l
told_exploration_number (Acquire l) = l
told_exploration_number (Release l) = l
told_exploration_number (Set f) = f
told_exploration_number (Watch f) = f
told_exploration_number (Await f) = f
told_exploration_number _ = NONE

-- the word that it names
abbrev pub told_exploration_value : Kind → ℕ
told_exploration_value (Load a v) = v
told_exploration_value (Store a v) = v
told_exploration_value _ = NONE

-- there is no access
abbrev pub told_exploration_no_access : ToldAccess
told_exploration_no_access = record { place = NONE; processor = NONE; kind = NONE; address = NONE; value = NONE }

-- the event at this place, if there is one
abbrev pub told_exploration_event_at : ℕ → Option Event → ToldAccess
told_exploration_event_at place None = told_exploration_no_access
told_exploration_event_at place (Some e) = record {
  place = place;
  processor = e.processor;
  kind = told_exploration_kind e.kind;
  address = told_exploration_number e.kind;
  value = told_exploration_value e.kind;
}

-- the event of these at a place
abbrev pub told_exploration_access : List Event → ℕ → ToldAccess
told_exploration_access g place = told_exploration_event_at place (slice_get g place)

-- the two that race: the one at the place that is told, and the last one
abbrev pub told_exploration_conflict : Verdict → ToldConflict
told_exploration_conflict (verdict.Racy racy) = record {
  first = told_exploration_access racy.events.items racy.first;
  second = told_exploration_access racy.events.items (length racy.events.items - 1);
}
told_exploration_conflict _ = record { first = told_exploration_no_access; second = told_exploration_no_access }

-- nobody waits
abbrev pub told_exploration_no_wait : ToldWait
told_exploration_no_wait = record { kind = NONE; number = NONE }

-- the event that would end a wait
abbrev pub told_exploration_wait : Option Kind → ToldWait
told_exploration_wait None = told_exploration_no_wait
told_exploration_wait (Some k) = record { kind = told_exploration_kind k; number = told_exploration_number k }

-- what processor p waits for
abbrev pub told_exploration_wait_of : List (Option Kind) → ℕ → ToldWait
told_exploration_wait_of waits p = told_exploration_wait (slice_index_or waits p None)

-- what each processor that there may be waits for
abbrev pub told_exploration_waits : List (Option Kind) → List ToldWait
told_exploration_waits waits = map (told_exploration_wait_of waits) (range_with_len 0 16)

-- what each waits for where a schedule hangs
abbrev pub told_exploration_awaited_by : Hanging → List ToldWait
told_exploration_awaited_by (hanging.Hangs hang) = told_exploration_waits hang.waits.items
told_exploration_awaited_by _ = replicate 16 told_exploration_no_wait

-- whether the script races
abbrev pub told_exploration_racing : Verdict → ℕ
told_exploration_racing verdict.RaceFree = 0
told_exploration_racing (verdict.Racy racy) = 1
told_exploration_racing verdict.Undecided = 2

-- whether a schedule of it hangs
abbrev pub told_exploration_hanging : Hanging → ℕ
told_exploration_hanging hanging.Never = 0
told_exploration_hanging (hanging.Hangs hang) = 1
told_exploration_hanging hanging.Undecided = 2

-- all that was found, as C is told it
abbrev pub told_exploration : Explored → ToldExploration
told_exploration x = record {
  verdict = told_exploration_racing x.verdict;
  hangs = told_exploration_hanging x.hanging;
  states = x.states;
  outcomes = length x.outcomes.items;
  are_all = if x.are_all then 1 else 0;
  race = told_exploration_conflict x.verdict;
  waits = told_exploration_awaited_by x.hanging;
}
