-- Histories whose numbers are within their sizes.
use Rattle.std.specs.Prelude.{ℕ, ◌+◌, ◌≤◌, ◌≡◌, List, length}
use Rattle.base.specs.Limits.{most_held, most_processors}
use Rattle.journal.specs.declared.event.Event.{Event}
use Rattle.journal.specs.Events.{EventAt}
use Rattle.journal.specs.JournalHistory.{IsJournalHistory, journal_history_arrivals}
use Rattle.journal.specs.Log.{Log}
use Rattle.journal.specs.Sizes.{Sizes}
use Rattle.judge.specs.declared.sizes.Sizes.{Sizes as Given}
use Rattle.judge.specs.Miscounted.{IsEventInSizes}
use Rattle.judge.specs.JudgedSizes.{AreStreamedSizes, judged_sizes_of}

-- events of a history: as many as a journal holds, and the arrivals in front that stand for what was cut off
abbrev pub most_in_sized_history : ℕ
most_in_sized_history = most_held + most_processors

-- the numbers of each event are within the sizes
abbrev pub IsHistoryInSizes : Sizes → List Event → Type 0
IsHistoryInSizes s j = (k : ℕ) (e : Event) → EventAt j k e → IsEventInSizes s e

-- the sizes, how many events were cut off, how many arrivals in front stand for them, and all events behind and with these
pub record SizedHistory : Type 0 where
  pub sizes : Given
  pub cut : ℕ
  pub opening : ℕ
  pub events : List Event

-- nothing was cut off
abbrev pub whole_sized_history : Given → List Event → SizedHistory
whole_sized_history sizes events = record { sizes = sizes; cut = 0; opening = 0; events = events }

-- the sizes are judged, the events within them, and few
pub record IsSizedHistory (h : SizedHistory) : Type 0 where
  pub judged : AreStreamedSizes (judged_sizes_of h.sizes)
  pub opening : h.opening ≤ length h.events
  pub few_opening : h.opening ≤ most_processors
  pub few : length h.events ≤ h.opening + most_held
  pub within : IsHistoryInSizes (judged_sizes_of h.sizes) h.events

-- the journal's events are within these sizes, and so are the processors of which an arrival stands for what was cut off
pub record IsHistoryOfSizes (s : Sizes) (log : Log) : Type 0 where
  pub judged : AreStreamedSizes s
  pub processors : journal_history_arrivals log ≤ s.processors
  pub within : IsHistoryInSizes s log.events

-- the history is the journal's, by these sizes
pub record IsSizedHistoryOfJournal (sizes : Given) (log : Log) (h : SizedHistory) : Type 0 where
  pub sizes_are : h.sizes ≡ sizes
  pub cut : h.cut ≡ log.base.cut
  pub opening : h.opening ≡ journal_history_arrivals log
  pub events : IsJournalHistory log h.events
