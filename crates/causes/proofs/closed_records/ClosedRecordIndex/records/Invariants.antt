use Rattle.judge.specs.JudgedSizes.{judged_sizes_of}
use Rattle.causes.proofs.RecordRows.{AreClosedRecordsBelow}
use Rattle.causes.proofs.closed_records.ClosedRecordIndex.records.Given as goal

abbrev pub invariant-loop-page : goal.invariant-loop-page
invariant-loop-page l =
    AreClosedRecordsBelow (judged_sizes_of l.gaps.sizes) l.events l.by l.interval l.page l.records.items
