-- Loads, stores and fetches.
use Rattle.std.specs.Prelude.{ℕ, ◌≡◌, ◌/◌, ◌%◌, true, Some, slice_get, slice_set}
use Rattle.journal.specs.declared.event.Kind.TheVariants.{Store, Fetch}
use Rattle.journal.specs.NewestInGap.{AreNewestInGap}
use Rattle.cluster.specs.declared.copies.replica.MissingCounts.{MissingCounts}
use Rattle.cluster.specs.Copies.PageReplica.{PageReplica, page_replica_fetched, page_replica_written_at}
use Rattle.cluster.specs.Copies.MissingRecordCounts.{AreMissingRecordCounts}
use Rattle.cluster.specs.Copies.Local.{Local, local_noted}

-- the processor's copy of the address's page has this word there
pub record LoadAccessDone (m : Local) (a v : ℕ) : Type 0 where
  pub copy : PageReplica
  pub at : slice_get m.copies (a / m.sizes.words) ≡ Some copy
  pub word : slice_get copy.page.words (a % m.sizes.words) ≡ Some v

-- the processor after a store of v at address a, c being its copy of the page
abbrev pub access_done_by_store : Local → ℕ → ℕ → PageReplica → Local
access_done_by_store m a v c = record (local_noted m (Store a v)) {
  copies = slice_set m.copies (a / m.sizes.words) (page_replica_written_at c (a % m.sizes.words) v);
  stored = slice_set m.stored (a / m.sizes.words) true;
}

-- and it had one
pub record StoreAccessDone (old : Local) (a v : ℕ) (new : Local) : Type 0 where
  pub copy : PageReplica
  pub at : slice_get old.copies (a / old.sizes.words) ≡ Some copy
  pub after : new ≡ access_done_by_store old a v copy

-- the processor after a fetch of page n with these counts, c being its copy of the page
abbrev pub access_done_by_fetch : Local → ℕ → PageReplica → MissingCounts → Local
access_done_by_fetch m n c k =
    record (local_noted m (Fetch k.writers n k.records k.words)) { copies = slice_set m.copies n (page_replica_fetched c) }

-- and it had one, whose missing records are that many; each word with stores in the gap has the newest of them
pub record FetchAccessDone (old : Local) (n : ℕ) (new : Local) : Type 0 where
  pub copy : PageReplica
  pub at : slice_get old.copies n ≡ Some copy
  pub counts : MissingCounts
  pub are : AreMissingRecordCounts copy.missing counts
  pub newest : AreNewestInGap old.sizes old.seen old.number n copy.page.words (page_replica_fetched copy).page.words
  pub after : new ≡ access_done_by_fetch old n copy counts
