-- What a call that enters the book does to its processor.
use Rattle.std.specs.Prelude.{ℕ, ◌≡◌, ◌≢◌, ◌⊎◌, ◌↔◌, ◌+◌, ◌<◌, ◌≤◌, Option, Some, None, List, [], ◌++◌, length}
use Rattle.journal.specs.declared.event.Event.{Event}
use Rattle.base.specs.Limits.{most_events}
use Rattle.book.specs.declared.refused.Refused.{Refused}
use Rattle.book.specs.declared.refused.Refused.TheVariants.{NotYet, JournalFull, NoMemory}
use Rattle.cluster.specs.Copies.Local.{Local, calls}
use Rattle.cluster.specs.Copies.AfterNews.{AreSameCopiesAfterNews, handed_after_news}
use Rattle.cluster.specs.ProcessorRefusals.{processor_refusal_of_flush}
use Rattle.cluster.specs.Entering.{EnteredAndDid}
use Rattle.cluster.specs.Covers.{HasCoverage, IsCoverAllowed}

-- all is the same, except that lists of missing records may have memory for more
pub record IsSameAfterProcessorCall (m n : Local) : Type 0 where
  pub copies : AreSameCopiesAfterNews m.copies n.copies
  pub same : n ≡ record m { copies = n.copies }

-- the block was handed in
abbrev pub IsHandedByProcessorCall : Local → Local → Type 0
IsHandedByProcessorCall m n = n ≡ handed_after_news m

-- the call entered, and left all as it found it: what it waits for is absent, or the journal has no room for that many
-- events, or no memory was to be had
pub record IsProcessorCallRefusedInside (many : ℕ) (absent : Local → Type 0) (old new : Local) (e : Refused) : Type 0 where
  pub entered : EnteredAndDid IsSameAfterProcessorCall old new
  pub why : (e ≡ NotYet) ⊎ (e ≡ JournalFull) ⊎ (e ≡ NoMemory)
  pub not_yet : e ≡ NotYet ↔ absent new
  -- a call that comes too early got no room
  pub early : e ≡ NotYet → new.copies ≡ old.copies
  pub full : ¬ absent new → e ≡ JournalFull ↔ (most_events + new.cut < length new.seen + many)

-- it is the same processor of the same cluster
pub record IsSameProcessorOfCall (old new : Local) : Type 0 where
  pub lock : new.lock ≡ old.lock
  pub number : new.number ≡ old.number
  pub sizes : new.sizes ≡ old.sizes

-- memory was refused before the call could enter, which no call meets that may have to wait
abbrev pub IsProcessorCallUnmade : (Local → Type 0) → Local → Local → Refused → Type 0
IsProcessorCallUnmade absent old new e = (e ≡ NoMemory) × (new ≡ old) × ((m : Local) → ¬ absent m)

-- A call that enters the book: it is refused before it enters if there is a reason for it, which the processor
-- knows by itself; else it enters, and is done or refused, or memory was refused before it could enter.
pub record IsProcessorCall (first : Option Refused) (many : ℕ) (absent : Local → Type 0) (done : Local → Local → Type 0)
    (added : List Event) (old new : Local) (refused : Option Refused) : Type 0 where
  pub same : IsSameProcessorOfCall old new
  pub outside : (e : Refused) → first ≡ Some e → (refused ≡ Some e) × (new ≡ old)
  pub ok : refused ≡ None
      → EnteredAndDid done old new × (length new.seen ≤ most_events + new.cut) × (calls new ≡ calls old ++ added)
  pub err : (e : Refused) → first ≡ None → refused ≡ Some e
      → IsProcessorCallRefusedInside many absent old new e ⊎ IsProcessorCallUnmade absent old new e
  pub kept : refused ≢ None → calls new ≡ calls old
  pub uncut : new.own_cut ≡ old.own_cut
  pub covers : HasCoverage new
  pub allowed : IsCoverAllowed old → IsCoverAllowed new

-- nothing is waited for
abbrev pub ProcessorCallWaitsForNothing : Local → Type 0
ProcessorCallWaitsForNothing m = ⊥

-- a call that hands the block in
abbrev pub IsProcessorHandingCall : Local → Local → Option Refused → Type 0
IsProcessorHandingCall old new refused = IsProcessorCall (processor_refusal_of_flush old) (length old.block) ProcessorCallWaitsForNothing IsHandedByProcessorCall [] old new refused
