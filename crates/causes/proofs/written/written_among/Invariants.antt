use Rattle.std.proofs.Common.{◌+◌, ◌≤◌, List}
use Rattle.journal.specs.declared.event.Event.{Event}
use Rattle.journal.specs.Sizes.{Sizes}
use Rattle.causes.specs.FetchedOrigins.{AreOriginsBefore}
use Rattle.causes.proofs.WrittenWords.{AreWrittenWordsBelow}
use Rattle.causes.proofs.written.written_among.Given as goal

abbrev pub invariant-loop-address : goal.invariant-loop-address
invariant-loop-address l = record {
  low : l.fn.range.first ≤ l.address;
  written : (s : Sizes) (j : List Event) → AreOriginsBefore s j (l.place + 1) l.words
      → AreWrittenWordsBelow s j l.place l.reader l.fn.range.first l.address l.written.items;
}
