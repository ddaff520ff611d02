-- A processor's copy of a page, by what the processor has seen.
use Rattle.std.specs.Prelude.{ℕ, ◌≡◌, ◌≢◌, ◌+◌, ◌<◌, ◌≤◌, Bool, true, false, Option, Some, None, List, [], ◌++◌, map, length, replicate, slice_set}
use Rattle.base.specs.Limits.{most_pages, most_words}
use Rattle.journal.specs.declared.event.Event.{Event}
use Rattle.journal.specs.Sizes.{Sizes}
use Rattle.journal.specs.MissingIntervals.{MissingIntervalsInOrder}
use Rattle.journal.specs.ValidAndStaleCopy.{IsValidCopy, IsStaleCopy}
use Rattle.journal.specs.Dirty.{IsDirty}
use Rattle.base.specs.InOrderOnce.{Has}
use Rattle.base.specs.AppliedRecords.{records_applied}
use Rattle.page.specs.CarriedHarvests.{CarriedHarvestFits}
use Rattle.page.specs.Contents.{Contents, ContentsAreClean}
use Rattle.page.specs.declared.page.Access.{Access}
use Rattle.page.specs.declared.page.Access.TheVariants.{Valid, Invalid}
use Rattle.interval.specs.SentIntervals.{SentRecord}
use Rattle.book.specs.PageNews.{page_news_of_notice}

-- the copy, the records that it lacks, and for how many more of them the list has memory
pub record PageReplica : Type 0 where
  pub page : Contents
  pub missing : List SentRecord
  pub room : ℕ

-- p's copy of page n is valid and lacks nothing, or it lacks what these records have and may not be used;
-- its dirty bits are p's stores since its last closing event
pub record IsPageReplica (s : Sizes) (seen block : List Event) (p n : ℕ) (base : List ℕ) (c : PageReplica) : Type 0 where
  pub valid : c.page.access ≡ Valid → IsValidCopy s seen block p n base c.page.words × (c.missing ≡ [])
  pub stale : c.page.access ≡ Invalid
      → IsStaleCopy s seen block p n c.page.words (map page_news_of_notice c.missing) × (c.missing ≢ []) × ContentsAreClean c.page
  pub order : MissingIntervalsInOrder (map page_news_of_notice c.missing)
  pub dirty : IsDirty s (seen ++ block) p n c.page.words c.page.dirty

-- a copy may be used
abbrev pub may_use_page_replica : Access → Bool
may_use_page_replica Valid = true
may_use_page_replica Invalid = false

-- the words of a copy, if it may be used
abbrev pub page_replica_words_if : Bool → PageReplica → Option (List ℕ)
page_replica_words_if true c = Some c.page.words
page_replica_words_if false c = None

-- a copy of zeros that lacks nothing
abbrev pub zero_page_replica : ℕ → PageReplica
zero_page_replica words = record {
  page = record { words = replicate words 0; dirty = replicate words false; access = Valid };
  missing = [];
  room = 0;
}

-- the copy with one word written and marked
abbrev pub page_replica_written_at : PageReplica → ℕ → ℕ → PageReplica
page_replica_written_at c o v =
    record c { page = record c.page { words = slice_set c.page.words o v; dirty = slice_set c.page.dirty o true } }

-- the words of a record that was sent
abbrev pub page_replica_record_words : SentRecord → List (ℕ × ℕ)
page_replica_record_words x = x.content.words

-- the copy with its missing records applied, in their order; their places in the list are room again
abbrev pub page_replica_fetched : PageReplica → PageReplica
page_replica_fetched c = record {
  page = record c.page { words = records_applied c.page.words (map page_replica_record_words c.missing); access = Valid };
  missing = [];
  room = c.room + length c.missing;
}

-- q owns one of the records
abbrev pub IsPageReplicaOwner : List SentRecord → ℕ → Type 0
IsPageReplicaOwner missing q = (x : SentRecord) × Has missing x × (x.notice.owner ≡ q)

-- the record has words of a page of n words alone, at most as many as a page may have, and its owner's number is one of a set
pub record FitsPageReplica (n : ℕ) (x : SentRecord) : Type 0 where
  pub owner : x.notice.owner < most_pages
  pub fits : CarriedHarvestFits n (page_replica_record_words x)
  pub short : length (page_replica_record_words x) ≤ most_words

-- each of them does
abbrev pub AllFitPageReplica : ℕ → List SentRecord → Type 0
AllFitPageReplica n missing = (x : SentRecord) → Has missing x → FitsPageReplica n x
