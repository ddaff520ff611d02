-- How a journal holds its events: behind an arrival of each processor, which stands for what was cut off.
use Rattle.std.specs.Prelude.{◌+◌, ◌≤◌, IfSome, take, drop, vec_len, vec_capacity}
use Rattle.base.specs.Limits.{most_held, most_processors}
use Rattle.journal.specs.declared.journal.Journal.TheInside.{Inside}
use Rattle.journal.specs.Log.{Log}
use Rattle.journal.specs.EventsInRange.{EventAddressesInRange, EventProcessorsInRange}
use Rattle.journal.specs.KeptBaseState.{base_of_kept_state, IsKeptBaseState}
use Rattle.journal.specs.Opening.{IsOpening}
use Rattle.journal.specs.CutEpisodes.{AreCutEpisodes, IsRaceOfCutEpisodes}

abbrev pub journal_invariant_log : Inside → Log
journal_invariant_log j =
    record {
      processors = j.processors;
      addresses = j.addresses;
      events = drop j.processors j.events.items;
      room = j.room;
      base = base_of_kept_state j.kept;
    }

-- the memory that is reserved is there, processors and events are few enough, the events' processors and addresses in
-- range, and what is known of episodes and of a race is so
pub record JournalInvariant (j : Inside) : Type 0 where
  pub reserved : vec_len j.events + j.room ≤ vec_capacity j.events
  pub few : vec_len j.events ≤ j.processors + most_held
  pub few_processors : j.processors ≤ most_processors
  pub opening : IsOpening j.processors (take j.processors j.events.items)
  pub by_processors : EventProcessorsInRange j.processors j.events.items
  pub in_range : EventAddressesInRange j.addresses j.events.items
  pub kept : IsKeptBaseState j.addresses j.kept
  pub episodes : AreCutEpisodes j.processors (drop j.processors j.events.items) j.episodes
  pub race : IfSome j.race
      (λ r. IsRaceOfCutEpisodes j.processors (base_of_kept_state j.kept) (drop j.processors j.events.items) r.0 r.1)
