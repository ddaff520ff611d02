-- What a cut does to a journal, and why it is refused.
use Rattle.std.specs.Prelude.{ℕ, ◌≡◌, ◌+◌, ◌<◌, ◌≤◌, take, drop}
use Rattle.base.specs.Limits.{most_cut}
use Rattle.journal.specs.declared.cut.CutFault.{CutFault}
use Rattle.journal.specs.declared.cut.CutFault.TheVariants.{Racy, NoEpisode, BaseFull, NoMemory}
use Rattle.journal.specs.Log.{Log}
use Rattle.journal.specs.RacesFromBase.{IsFirstRaceFromBase, RaceFreeFromBase}
use Rattle.journal.specs.EpisodeBases.{IsEpisodeBaseFront, NoEpisodeBaseFront, IsEpisodeBaseAfter}

-- these events are to be cut off, and all that is cut off stays within the limit
pub record JournalMayBeCut (log : Log) (n : ℕ) : Type 0 where
  pub place : IsEpisodeBaseFront log.processors log.events n
  pub few : log.base.cut + n ≤ most_cut

-- the events up to the last arrival of the last complete episode have no race and are cut off
pub record JournalWasCut (old new : Log) : Type 0 where
  pub taken : ℕ
  pub may : JournalMayBeCut old taken
  pub race_free : RaceFreeFromBase old.base (take taken old.events)
  pub base : IsEpisodeBaseAfter old.base (take taken old.events) new.base
  pub left : new ≡ record old { events = drop taken old.events; base = new.base }

-- why nothing is cut off
abbrev pub IsJournalCutRefusal : Log → CutFault → Type 0
IsJournalCutRefusal log (Racy i k) = (n : ℕ) × JournalMayBeCut log n × IsFirstRaceFromBase log.base (take n log.events) i k
IsJournalCutRefusal log NoEpisode = NoEpisodeBaseFront log.processors log.events
IsJournalCutRefusal log BaseFull = (n : ℕ) × IsEpisodeBaseFront log.processors log.events n × (most_cut < log.base.cut + n)
IsJournalCutRefusal log NoMemory = (n : ℕ) × JournalMayBeCut log n
