use Rattle.explore.specs.TextWalks.{AreFlagSettersKept, AreRowSettersNoted}
use Rattle.explore.proofs.text.walk.note_row_setters.Given as goal

abbrev pub invariant-loop-step : goal.invariant-loop-step
invariant-loop-step l = record {
  keeps : AreFlagSettersKept l.fn.flags l.flags;
  noted : AreRowSettersNoted l.flags l.processor l.row l.step-index;
}
