-- The records so far are applied and counted.
use Rattle.std.proofs.Common.{◌≡◌, ◌≤◌, length, map, drop, take, sum_by}
use Rattle.base.specs.AppliedRecords.{records_applied}
use Rattle.journal.specs.PageImages.{HasPageImageCount}
use Rattle.cluster.specs.Copies.PageReplica.{page_replica_record_words, IsPageReplicaOwner}
use Rattle.cluster.proofs.copies.Owners.{AreOwnersMarked}
use Rattle.cluster.proofs.copies.replica.apply_all_to_replica.Given as goal

abbrev pub invariant-loop-index : goal.invariant-loop-index
invariant-loop-index l = record {
  long : length l.page.words ≡ length l.initial.page.words;
  dirty : l.page.dirty ≡ l.initial.page.dirty;
  access : l.page.access ≡ l.initial.page.access;
  applied : records_applied l.page.words (map page_replica_record_words (drop l.index l.missing.records))
      ≡ records_applied l.initial.page.words (map page_replica_record_words l.missing.records);
  counted : HasPageImageCount (IsPageReplicaOwner (take l.index l.missing.records)) l.writers;
  marked : AreOwnersMarked (take l.index l.missing.records) l.owners;
  some : l.writers ≤ l.index;
  sums : l.words ≡ sum_by (λ x. length (page_replica_record_words x)) (take l.index l.missing.records);
}
