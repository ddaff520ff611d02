-- A cut leaves the history as it was.
use Rattle.std.specs.Prelude.{◌≡◌, List, [], ◌++◌, take}
use Rattle.journal.specs.declared.event.Event.{Event}
use Rattle.journal.specs.Sizes.{Sizes, addresses}
use Rattle.journal.specs.WellFormed.{WellFormed}
use Rattle.journal.specs.Log.{Log, LogHoldsHistory, LogHoldsRestOfHistory}
use Rattle.journal.specs.JournalCuts.{JournalWasCut}

-- the journal is one of a cluster of these sizes
pub record HistoryLawSizes (s : Sizes) (log : Log) : Type 0 where
  pub processors : log.processors ≡ s.processors
  pub addresses_are : log.addresses ≡ addresses s

-- a journal of which nothing was cut off holds all of its history
abbrev pub HistoryLawUncut : Type 0
HistoryLawUncut = (log : Log) (h : List Event) → LogHoldsHistory log h → LogHoldsRestOfHistory log [] h

-- what a cut takes, c has after it; the history stays as it was
abbrev pub HistoryLaw : Type 0
HistoryLaw = (s : Sizes) (old new : Log) (c h : List Event) → HistoryLawSizes s old → WellFormed s h → LogHoldsRestOfHistory old c h
    → (was : JournalWasCut old new) → LogHoldsRestOfHistory new (c ++ take was.taken old.events) h
