use Rattle.causes.specs.ClosedRecords.{AreClosedRecordWordsBelow}
use Rattle.causes.proofs.closed_records.closed_record_words.Given as goal

abbrev pub invariant-loop-offset : goal.invariant-loop-offset
invariant-loop-offset l = AreClosedRecordWordsBelow l.events l.by l.interval l.first l.offset l.words.items
