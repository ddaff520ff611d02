use Rattle.journal.specs.Opening.{IsOpening}
use Rattle.journal.proofs.journal.journal_opening.Given as goal

abbrev pub invariant-loop-processor : goal.invariant-loop-processor
invariant-loop-processor l = IsOpening l.processor l.events.items
