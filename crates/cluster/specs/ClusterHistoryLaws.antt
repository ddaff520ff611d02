-- What is promised for itself.
use Rattle.std.specs.Prelude.{ℕ, ◌≡◌, ◌<◌, Some, List, ◌++◌, slice_get}
use Rattle.journal.specs.declared.event.Event.{Event}
use Rattle.journal.specs.PageImagesFromBase.{LawfulPageImageFromBase}
use Rattle.journal.specs.WellFormedFromBase.{IsAwayFromBase}
use Rattle.book.specs.BookState.{BookState}
use Rattle.book.specs.RepresentedHistory.{HoldsRepresentedHistory}
use Rattle.page.specs.declared.page.Access.TheVariants.{Valid}
use Rattle.cluster.specs.Copies.PageReplica.{PageReplica}
use Rattle.cluster.specs.Copies.Local.{Local}
use Rattle.cluster.specs.declared.keeper.View.{View}
use Rattle.cluster.specs.KeptViews.{IsSeenInViews, KeptWithViews}
use Rattle.cluster.specs.Covers.{IsCoverAllowedByLock, HasCoverage, IsCoverAllowed}
use Rattle.cluster.specs.FaithfulJournals.{IsFaithful, IsFaithfulJournalFrom, IsJournalOf}
use Rattle.journal.specs.Log.{Log}
use Rattle.journal.specs.Sizes.{Sizes}

-- somebody has seen this history, of which the journal holds what is left, and what each has seen is a beginning of it
pub record IsHistoryByClusterLaw (b : BookState) (views : List View) (h : List Event) : Type 0 where
  pub holds : HoldsRepresentedHistory b.journal h
  pub whole : IsSeenInViews views h
  pub begins : (p : ℕ) (v : View) → slice_get views p ≡ Some v → (rest : List Event) × (h ≡ v.seen ++ rest)

-- a book that the lock keeps has such a history
abbrev pub ClusterSeenLaw : Type 0
ClusterSeenLaw = (b : BookState) (views : List View) → KeptWithViews b views → (h : List Event) × IsHistoryByClusterLaw b views h

-- what a processor does by itself, without entering, leaves the histories that the book's lock allows it
abbrev pub ClusterAllowedLaw : Type 0
ClusterAllowedLaw = (m n : Local) → n.number ≡ m.number → n.sizes ≡ m.sizes → n.seen ≡ m.seen → n.cut ≡ m.cut
    → n.own_cut ≡ m.own_cut → IsCoverAllowed m → IsCoverAllowed n

-- a valid copy of a processor that has done something in the journal or its block is the base's page after the stores
-- to it in the past within these, whatever book the lock has
abbrev pub ClusterFromBaseLaw : Type 0
ClusterFromBaseLaw = (m : Local) (h : List Event) (a : IsCoverAllowedByLock m h) (n : ℕ) (c : PageReplica)
    → HasCoverage m → n < m.sizes.pages → slice_get m.copies n ≡ Some c → c.page.access ≡ Valid
    → ¬ IsAwayFromBase (a.book.journal.events ++ m.block) m.number
    → LawfulPageImageFromBase m.sizes a.book.journal.base (a.book.journal.events ++ m.block) m.number n c.page.words

-- the journal that holds what is left of a faithful history is faithful from its base
abbrev pub ClusterLeftLaw : Type 0
ClusterLeftLaw = (s : Sizes) (c h : List Event) (j : Log) → IsJournalOf s c h j → IsFaithful s h → IsFaithfulJournalFrom s c j
