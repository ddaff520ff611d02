-- What contracts see of a journal.
use Rattle.std.specs.Prelude.{ℕ, ◌≡◌, ◌≤◌, List, [], ◌++◌}
use Rattle.base.specs.Limits.{most_cut}
use Rattle.journal.specs.declared.event.Event.{Event}
use Rattle.journal.specs.Base.{Base, no_base}
use Rattle.journal.specs.EpisodeBases.{IsEpisodeBaseOf}

-- the sizes, the events in order, for how many more events memory is reserved, and what is kept of the events cut off
pub record Log : Type 0 where
  pub processors : ℕ
  pub addresses : ℕ
  pub events : List Event
  pub room : ℕ
  pub base : Base

-- an empty journal, of which nothing was cut off
abbrev pub new_log : ℕ → ℕ → Log
new_log processors addresses =
    record { processors = processors; addresses = addresses; events = []; room = 0; base = no_base addresses }

-- the journal holds this history, of which nothing was cut off
pub record LogHoldsHistory (log : Log) (h : List Event) : Type 0 where
  pub whole : log.base ≡ no_base log.addresses
  pub history : log.events ≡ h

-- the journal holds what is left of this history after c was cut off: few enough events, which leave its base
pub record LogHoldsRestOfHistory (log : Log) (c h : List Event) : Type 0 where
  pub history : h ≡ c ++ log.events
  pub base : IsEpisodeBaseOf log.processors log.addresses c log.base
  pub few : log.base.cut ≤ most_cut
