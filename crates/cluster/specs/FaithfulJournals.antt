-- The histories that a cluster gives out.
use Rattle.std.specs.Prelude.{ℕ, ◌≡◌, ◌<◌, List, ◌++◌, replicate, take}
use Rattle.journal.specs.declared.event.Event.{Event}
use Rattle.journal.specs.Sizes.{Sizes, addresses}
use Rattle.journal.specs.Events.{events_of}
use Rattle.journal.specs.WellFormed.{WellFormed}
use Rattle.journal.specs.ExplainedAnswers.{Explained}
use Rattle.journal.specs.FetchesCountGaps.{FetchesCountGaps}
use Rattle.journal.specs.CopyAnswers.{AnswersCopies}
use Rattle.journal.specs.Races.{Race}
use Rattle.journal.specs.ReplayMemory.{Replays, memory_after}
use Rattle.journal.specs.ExplainedAnswersFromBase.{ExplainedFromBase}
use Rattle.journal.specs.RacesFromBase.{RaceFreeFromBase, IsFirstRaceFromBase}
use Rattle.journal.specs.WellFormedFromBase.{WellFormedFromBase}
use Rattle.journal.specs.Log.{Log, LogHoldsRestOfHistory}
use Rattle.cluster.specs.Copies.Local.{Local, calls}

-- some cluster of these sizes may do this: each load answers a latest store of its past, and the word of its processor's
-- copy, each fetch counts its gap, and up to the first race the replies are those of one flat memory
pub record IsFaithful (s : Sizes) (h : List Event) : Type 0 where
  pub well_formed : WellFormed s h
  pub explained : Explained h
  pub counted : FetchesCountGaps s h
  pub copied : AnswersCopies s h
  pub flat : (k : ℕ) → ((i j : ℕ) → j < k → ¬ Race h i j) → Replays (replicate (addresses s) 0) (take k h)

-- the journal is of a cluster of these sizes, and holds what is left of this history after c was cut off
pub record IsJournalOf (s : Sizes) (c h : List Event) (j : Log) : Type 0 where
  pub processors : j.processors ≡ s.processors
  pub addresses_are : j.addresses ≡ addresses s
  pub holds : LogHoldsRestOfHistory j c h

-- an audit answers what the processor has seen then, which goes on from what it had seen, and in which its own events
-- are its calls
pub record IsFaithfulJournalAudit (old new : Local) (j : Log) : Type 0 where
  pub journal : IsJournalOf new.sizes (take new.cut new.seen) new.seen j
  pub faithful : IsFaithful new.sizes new.seen
  pub begins : (rest : List Event) × (new.seen ≡ old.seen ++ rest)
  pub calls_are : events_of new.seen new.number ≡ calls new

-- the journal alone, from its base, is what a faithful history's rest is; what was cut off is well formed too, and
-- replays from zeros to the base's memory
pub record IsFaithfulJournalFrom (s : Sizes) (c : List Event) (j : Log) : Type 0 where
  pub cut : WellFormed s c × Replays (replicate (addresses s) 0) c
  pub memory : j.base.memory ≡ memory_after (replicate (addresses s) 0) c
  pub well_formed : WellFormedFromBase s j.base j.events
  pub explained : ExplainedFromBase j.base j.events
  pub flat : RaceFreeFromBase j.base j.events → Replays j.base.memory j.events
  pub up_to : (i k : ℕ) → IsFirstRaceFromBase j.base j.events i k → Replays j.base.memory (take k j.events)
