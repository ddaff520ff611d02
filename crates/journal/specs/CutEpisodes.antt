-- What a journal knows of the part that a cut takes, without looking through its events.
use Rattle.std.specs.Prelude.{ℕ, ◌≡◌, ◌≤◌, List, MatchOption, length, slice_index, take}
use Rattle.journal.specs.declared.event.Event.{Event}
use Rattle.journal.specs.declared.episodes.Episodes.{Episodes}
use Rattle.journal.specs.Events.{event_count, event_arrives}
use Rattle.journal.specs.Base.{Base}
use Rattle.journal.specs.RacesFromBase.{IsFirstRaceFromBase}
use Rattle.journal.specs.EpisodeBases.{EndsBaseEpisode, IsEpisodeBaseFront, NoEpisodeBaseFront}

-- how often each processor has arrived, and how many events a cut takes
pub record AreCutEpisodes (processors : ℕ) (j : List Event) (x : Episodes) : Type 0 where
  pub arrivals : (q : ℕ) → slice_index x.arrivals q ≡ event_count event_arrives j q
  pub last : MatchOption x.last (NoEpisodeBaseFront processors j) (λ n. IsEpisodeBaseFront processors j n)

-- a front that ends an episode has this first race
pub record IsRaceOfCutEpisodes (processors : ℕ) (b : Base) (j : List Event) (i k : ℕ) : Type 0 where
  pub count : ℕ
  pub within : count ≤ length j
  pub ends : EndsBaseEpisode processors (take count j)
  pub first : IsFirstRaceFromBase b (take count j) i k
