-- Where a journal is cut, and what is kept.
use Rattle.std.specs.Prelude.{ℕ, ◌≡◌, ◌+◌, ◌<◌, ◌≤◌, ◌⊎◌, ◌↔◌, List, [], length, take}
use Rattle.journal.specs.declared.event.Event.{Event}
use Rattle.journal.specs.declared.event.Kind.TheVariants.{Arrive}
use Rattle.base.specs.InOrderOnce.{Has}
use Rattle.journal.specs.DidEvent.{did}
use Rattle.journal.specs.Events.{event_count, event_arrives}
use Rattle.journal.specs.Races.{RaceFree}
use Rattle.journal.specs.ReplayMemory.{memory_after}
use Rattle.journal.specs.Traffic.{messages, records, words}
use Rattle.journal.specs.Base.{Base, no_base}
use Rattle.journal.specs.WellFormedFromBase.{HoldsFromBase, IsSetFromBase}

-- the last event is the last arrival of an episode: every processor has arrived as often as the one that arrives
pub record EndsBaseEpisode (processors : ℕ) (j : List Event) : Type 0 where
  pub front : List Event
  pub by : ℕ
  pub arrives : j ≡ did front by Arrive
  pub all : (q : ℕ) → q < processors → event_count event_arrives j by ≤ event_count event_arrives j q

-- the first n events are what a cut takes: they end an episode, and no longer front does
pub record IsEpisodeBaseFront (processors : ℕ) (j : List Event) (n : ℕ) : Type 0 where
  pub within : n ≤ length j
  pub ends : EndsBaseEpisode processors (take n j)
  pub last : (m : ℕ) → m ≤ length j → EndsBaseEpisode processors (take m j) → m ≤ n

-- no episode is complete
abbrev pub NoEpisodeBaseFront : ℕ → List Event → Type 0
NoEpisodeBaseFront processors j = (n : ℕ) → n ≤ length j → ¬ EndsBaseEpisode processors (take n j)

-- what is kept after these events, from what was kept before
pub record IsEpisodeBaseAfter (b : Base) (j : List Event) (after : Base) : Type 0 where
  pub cut : after.cut ≡ b.cut + length j
  pub memory : after.memory ≡ memory_after b.memory j
  pub holders : (p l : ℕ) → Has after.holders (p, l) ↔ HoldsFromBase b j p l
  pub flags : (f : ℕ) → Has after.flags f ↔ IsSetFromBase b j f
  pub messages_are : after.spent.messages ≡ b.spent.messages + messages j
  pub records_are : after.spent.records ≡ b.spent.records + records j
  pub words_are : after.spent.words ≡ b.spent.words + words j

-- the base is what is kept of the events c that were cut off: none, or events without a race up to the last arrival of
-- an episode
pub record IsEpisodeBaseOf (processors addresses : ℕ) (c : List Event) (b : Base) : Type 0 where
  pub after : IsEpisodeBaseAfter (no_base addresses) c b
  pub ends : (c ≡ []) ⊎ EndsBaseEpisode processors c
  pub race_free : RaceFree c
