-- A call that cuts the journal.
use Rattle.std.specs.Prelude.{ℕ, ◌≡◌, ◌+◌, ◌<◌, ◌≤◌, Option, Some, None, List, drop, take, length}
use Rattle.journal.specs.declared.event.Event.{Event}
use Rattle.journal.specs.Sizes.{Sizes}
use Rattle.journal.specs.EpisodeBases.{IsEpisodeBaseFront, NoEpisodeBaseFront}
use Rattle.journal.specs.JournalCuts.{IsJournalCutRefusal}
use Rattle.journal.specs.Log.{Log}
use Rattle.journal.specs.declared.cut.CutFault.{CutFault}
use Rattle.book.specs.BookCut.{book_cut_refusal}
use Rattle.journal.specs.Races.{RaceFree, IsFirstRace}
use Rattle.base.specs.Limits.{most_cut, most_events}
use Rattle.book.specs.declared.refused.Refused.{Refused}
use Rattle.book.specs.declared.refused.Refused.TheVariants.{NoMemory, Racy, NoEpisode, BaseFull}
use Rattle.cluster.specs.Copies.Local.{Local, calls}
use Rattle.cluster.specs.ProcessorCalls.{IsSameAfterProcessorCall, IsSameProcessorOfCall}
use Rattle.cluster.specs.Covers.{HasCoverage, IsCoverAllowed}
use Rattle.cluster.specs.Entering.{EnteredAndDid}
use Rattle.cluster.specs.ProcessorRefusals.{processor_refusal_of_flush}

-- of a history of which that many events were cut off, the next n are to be cut off: they end an episode, and no longer
-- front of what is left does; and all that is cut off stays within the limit
pub record CuttingCallMayCutOff (s : Sizes) (h : List Event) (cut n : ℕ) : Type 0 where
  pub place : IsEpisodeBaseFront s.processors (drop cut h) n
  pub few : cut + n ≤ most_cut

-- they were, by this processor, and all that is cut off has no race
pub record WasCutOffByCuttingCall (m n : Local) : Type 0 where
  pub taken : ℕ
  pub may : CuttingCallMayCutOff m.sizes m.seen m.cut taken
  pub race_free : RaceFree (take (m.cut + taken) m.seen)
  pub after : n ≡ record m { cut = m.cut + taken; own_cut = m.own_cut + taken }

-- why no more of such a history is cut off: places are counted from the first event that is left
abbrev pub IsCuttingCallRefusal : Sizes → List Event → ℕ → Refused → Type 0
IsCuttingCallRefusal s h cut (Racy i k) = (n : ℕ) × CuttingCallMayCutOff s h cut n × IsFirstRace (take (cut + n) h) (cut + i) (cut + k)
IsCuttingCallRefusal s h cut NoEpisode = NoEpisodeBaseFront s.processors (drop cut h)
IsCuttingCallRefusal s h cut BaseFull = (n : ℕ) × IsEpisodeBaseFront s.processors (drop cut h) n × (most_cut < cut + n)
IsCuttingCallRefusal s h cut NoMemory = (n : ℕ) × CuttingCallMayCutOff s h cut n
IsCuttingCallRefusal s h cut _ = ⊥

-- a journal isn't cut, for this reason
abbrev pub IsCuttingCallFault : Log → Refused → Type 0
IsCuttingCallFault log e = (f : CutFault) × (e ≡ book_cut_refusal f) × IsJournalCutRefusal log f

-- the call is refused if the entries are spent; else it enters, and cuts, or leaves all as it found it
pub record IsCuttingCall (old new : Local) (refused : Option Refused) : Type 0 where
  pub same : IsSameProcessorOfCall old new
  pub outside : (e : Refused) → processor_refusal_of_flush old ≡ Some e → (refused ≡ Some e) × (new ≡ old)
  pub ok : refused ≡ None → EnteredAndDid WasCutOffByCuttingCall old new × (length new.seen ≤ most_events + new.cut)
  pub err : (e : Refused) → processor_refusal_of_flush old ≡ None → refused ≡ Some e
      → EnteredAndDid IsSameAfterProcessorCall old new × IsCuttingCallRefusal new.sizes new.seen new.cut e
  pub calls_are : calls new ≡ calls old
  pub covers : HasCoverage new
  pub allowed : IsCoverAllowed old → IsCoverAllowed new
