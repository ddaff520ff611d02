-- What each call on a processor promises of every journal that the book may have until its next call.
use Rattle.std.specs.Prelude.{ℕ, ◌≡◌, ◌↔◌, ◌<◌, true, false, Some, List, ◌++◌, slice_get, slice_index, take}
use Rattle.journal.specs.declared.event.Event.{Event}
use Rattle.journal.specs.declared.event.Kind.TheVariants.{Fetch}
use Rattle.journal.specs.Events.{EventAt, events_of}
use Rattle.journal.specs.WellFormed.{Does, WellFormed}
use Rattle.journal.specs.Times.{IsTimeOf}
use Rattle.journal.specs.ExplainedAnswers.{Explained}
use Rattle.journal.specs.FetchesCountGaps.{FetchesCountGaps}
use Rattle.journal.specs.CopyAnswers.{AnswersCopies}
use Rattle.journal.specs.CopyOrigins.{AreCopyOrigins}
use Rattle.journal.specs.PageImages.{Lawful, GapCounts}
use Rattle.journal.specs.BroughtCopy.{BroughtCopyHasNoGap}
use Rattle.page.specs.declared.page.Access.TheVariants.{Valid}
use Rattle.book.specs.BookState.{BookState}
use Rattle.cluster.specs.declared.keeper.View.{View}
use Rattle.cluster.specs.Copies.PageReplica.{PageReplica}
use Rattle.cluster.specs.Copies.Local.{Local, calls}
use Rattle.cluster.specs.KeptViews.{KeptViewsInvariant, view_having_seen}
use Rattle.cluster.specs.ProcessorRefusals.{processor_refusal_has_valid}

-- the lock may have a book that represents this history, with what p has seen at p's place
pub record IsCoverAllowedByLock (m : Local) (h : List Event) : Type 0 where
  pub book : BookState
  pub views : List View
  pub mine : slice_get views m.number ≡ Some (view_having_seen m.sizes m.seen m.cut m.own_cut)
  pub kept : KeptViewsInvariant m.sizes h book views

-- and there is such a history
abbrev pub IsCoverAllowed : Local → Type 0
IsCoverAllowed m = (h : List Event) × IsCoverAllowedByLock m h

-- by this history and p's open block: p's part of it is its calls, its timestamp counts its past, and its copy of a
-- page is valid exactly if nothing is missing, and then it is what p's past makes of the page; its words are those of
-- their origins, also of a stale copy
pub record IsCovered (m : Local) (h : List Event) : Type 0 where
  pub well_formed : WellFormed m.sizes (h ++ m.block)
  pub calls_are : events_of h m.number ++ m.block ≡ calls m
  pub time : IsTimeOf (h ++ m.block) m.number (slice_index m.time)
  pub valid : (n : ℕ) (c : PageReplica) → slice_get m.copies n ≡ Some c
      → c.page.access ≡ Valid ↔ BroughtCopyHasNoGap m.sizes (h ++ m.block) m.number n
  pub lawful : (n : ℕ) (c : PageReplica) → slice_get m.copies n ≡ Some c → c.page.access ≡ Valid
      → Lawful m.sizes (h ++ m.block) m.number n c.page.words
  pub explained : Explained (h ++ m.block)
  pub counted : FetchesCountGaps m.sizes (h ++ m.block)
  pub copied : AnswersCopies m.sizes (h ++ m.block)
  pub origins : (n : ℕ) (c : PageReplica) → slice_get m.copies n ≡ Some c
      → AreCopyOrigins m.sizes (h ++ m.block) m.number n c.page.words

-- by what p has seen and its open block alone: the block's events are its own, its copy of a page is valid exactly if
-- nothing is missing, and each fetch of the block counts what was missing before it
pub record IsCoveredAlone (m : Local) : Type 0 where
  pub own : (k : ℕ) (e : Event) → EventAt m.block k e → e.processor ≡ m.number
  pub valid : (n : ℕ) → processor_refusal_has_valid m n ≡ true → BroughtCopyHasNoGap m.sizes (m.seen ++ m.block) m.number n
  pub stale : (n : ℕ) → n < m.sizes.pages → processor_refusal_has_valid m n ≡ false
      → ¬ BroughtCopyHasNoGap m.sizes (m.seen ++ m.block) m.number n
  pub counted : (k n w r d : ℕ) → Does m.block k m.number (Fetch w n r d)
      → GapCounts m.sizes (m.seen ++ take k m.block) m.number n w r d

-- so it is for every history that the lock allows, and by what p itself knows
pub record HasCoverage (m : Local) : Type 0 where
  pub each : (h : List Event) → IsCoverAllowedByLock m h → IsCovered m h
  pub alone : IsCoveredAlone m
