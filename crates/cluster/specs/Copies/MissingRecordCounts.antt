-- What a fetch counts.
use Rattle.std.specs.Prelude.{◌≡◌, ◌<◌, ◌^◌, List, length, sum_by}
use Rattle.journal.specs.PageImages.{HasPageImageCount}
use Rattle.interval.specs.SentIntervals.{SentRecord}
use Rattle.cluster.specs.declared.copies.replica.MissingCounts.{MissingCounts}
use Rattle.cluster.specs.Copies.PageReplica.{page_replica_record_words, IsPageReplicaOwner}

-- how many owners, records and words these are
pub record AreMissingRecordCounts (missing : List SentRecord) (c : MissingCounts) : Type 0 where
  pub writers : HasPageImageCount (IsPageReplicaOwner missing) c.writers
  pub records : c.records ≡ length missing
  pub words : c.words ≡ sum_by (λ x. length (page_replica_record_words x)) missing

-- how many they are, and their words, fits a fetch's counts
pub record FitMissingRecordCounts (missing : List SentRecord) : Type 0 where
  pub records : length missing < 2 ^ 32
  pub words : sum_by (λ x. length (page_replica_record_words x)) missing < 2 ^ 32
