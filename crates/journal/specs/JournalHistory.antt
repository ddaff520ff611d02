-- A journal's events with what stands for those that were cut off.
use Rattle.std.specs.Prelude.{ℕ, ◌≡◌, ◌==◌, List, ◌++◌, cond}
use Rattle.journal.specs.declared.event.Event.{Event}
use Rattle.journal.specs.Log.{Log}
use Rattle.journal.specs.Opening.{IsOpening}

-- so many arrivals stand for what was cut off: one of each processor, if something was
abbrev pub journal_history_arrivals : Log → ℕ
journal_history_arrivals log = cond (log.base.cut == 0) 0 log.processors

-- these are the journal's events behind those arrivals
pub record IsJournalHistory (log : Log) (h : List Event) : Type 0 where
  pub front : List Event
  pub opening : IsOpening (journal_history_arrivals log) front
  pub whole : h ≡ front ++ log.events
