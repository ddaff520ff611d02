use Rattle.std.proofs.Common.{◌≡◌, length, drop}
use Rattle.base.specs.AppliedRecords.{record_applied}
use Rattle.page.proofs.page.overwrite_page.Given as goal

abbrev pub invariant-loop-offset : goal.invariant-loop-offset
invariant-loop-offset l = record {
  long : length l.words ≡ length l.initial.words;
  applied : record_applied l.words (drop l.offset-index l.changes) ≡ record_applied l.initial.words l.changes;
}
